-- Which cuts are kept beside others.
use Rattle.std.specs.Prelude.{◌≡◌, ℕ, ◌<◌, ◌≤◌, List, length, take}
use Rattle.syn_cuts.specs.Cuts.{put}

-- no cut of more than `most` leaves, and at most k, is kept beside these
abbrev pub NoneLonger : ℕ → ℕ → List (List ℕ) → Type 0
NoneLonger most k cuts = (c : List ℕ) → most < length c → length c ≤ k → take 31 (put c cuts) ≡ cuts
