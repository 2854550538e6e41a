pub mod Trying
pub mod Entering
mod Ranking
mod Staging
mod Loads
mod Draining
mod Happening
mod Handing
mod Meeting
mod Meshing
mod Sole
mod Making
mod Stepping
mod Following
mod Replacing
mod Sparing
mod Insides
mod Tallying
mod Leaning
mod Returning
mod Ending
mod Joining
mod Listed
mod Keyings
mod Keeping
mod Joined
mod Telling
mod Pinning
mod Doing
mod Closing
mod Rooting
mod Booking
pub mod Resting
