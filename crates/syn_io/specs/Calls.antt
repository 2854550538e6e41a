-- Calls that are counted from 1, some of which are to fail.
use Rattle.std.specs.Prelude.{ℕ, ◌+◌, ◌-◌, ◌^◌, min, ◌==◌, Bool}
use Rattle.std.specs.List.{list_any}
use Rattle.syn_io.specs.declared.calls.Calls.{Calls}

-- One more, or as many where the count stands at the end of its 64 bits.
abbrev pub one_more : ℕ → ℕ
one_more count = min (count + 1) (2 ^ 64 - 1)

-- The next call is to fail: its number stands in the list.
abbrev pub next_fails : Calls → Bool
next_fails calls = list_any (λ number. number == one_more calls.made) calls.failing.items

-- The same list, one call later.
abbrev pub after_call : Calls → Calls
after_call calls = record calls { made = one_more calls.made }
