mod Sound
mod Parts
mod Candidates
