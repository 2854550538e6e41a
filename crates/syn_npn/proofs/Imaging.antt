-- Images as numbers and by their values.
use Rattle.std.proofs.Common.{ℕ, ◌^◌, ◌<◌, ◌≡◌, Bool, List, refl}
use Rattle.syn_npn.specs.Images.{number_of, read_at, value_at, value_read}
use Rattle.syn_npn.specs.Values.{image_by, image_value}
use Rattle.syn_npn.proofs.Numbers.{number_of-lt, value_at-number_of}

pub read_at-is : (perm : List ℕ) (flips m : ℕ) → read_at perm flips m ≡ number_of 4 (value_read perm flips m)
unfolding read_at
read_at-is perm flips m = refl

pub read_at-lt : (perm : List ℕ) (flips m : ℕ) → read_at perm flips m < 16
unfolding read_at
read_at-lt perm flips m = number_of-lt 4 (value_read perm flips m)

pub image_by-is : (perm : List ℕ) (flips : ℕ) (neg : Bool) (f : ℕ) → image_by perm flips neg f ≡ number_of 16 (image_value perm flips neg f)
unfolding image_by
image_by-is perm flips neg f = refl

pub image_by-lt : (perm : List ℕ) (flips : ℕ) (neg : Bool) (f : ℕ) → image_by perm flips neg f < 2 ^ 16
unfolding image_by
image_by-lt perm flips neg f = number_of-lt 16 (image_value perm flips neg f)

pub value_at-image_by : (perm : List ℕ) (flips : ℕ) (neg : Bool) (f m : ℕ) → m < 16 → value_at (image_by perm flips neg f) m ≡ image_value perm flips neg f m
unfolding image_by
value_at-image_by perm flips neg f m h = value_at-number_of 16 (image_value perm flips neg f) m h
