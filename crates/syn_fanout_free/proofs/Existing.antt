-- What follows for numbers of ANDs from reached sets that are there.
use Rattle.std.proofs.Common.{◌≡◌, ℕ, ◌&&◌, Bool, length, sym, ap, ◌∙◌, inl, inr, pos, ◌+ℤ◌}
use Rattle.std.proofs.lemmas.Bool.{cases_Bool, and_from}
use Rattle.syn_rows.specs.Rows.{row_at}
use Rattle.syn_rows.specs.Reach.{is_and, IsReachedSet}
use Rattle.syn_rows.proofs.Ends.{reached_set}
use Rattle.syn_rows.proofs.Reaches.{one_ands_is}
use Rattle.syn_fanout_free.specs.Laws.{SavedTells, AllAndsReached}
use Rattle.syn_fanout_free.proofs.Numbers.{one_if, ands_count, sum_same}

pub saved_tells : SavedTells
saved_tells was now observed s j k (j2, k2, aj, ak, e) before after =
    ap pos (one_ands_is was observed j j2 before aj) ∙ e ∙ ap (λ t. pos t +ℤ s) (one_ands_is now observed k2 k ak after)

pub all_ands_reached : AllAndsReached
all_ands_reached rows observed within lits reached = (found.0, found.1, ands_count rows found.0 ∙ sum_same (length rows) (λ p. one_if (is_and (row_at rows p) && found.0 p)) (λ p. one_if (is_and (row_at rows p))) (λ p lt. at p))
  where
    found : (s : ℕ → Bool) × IsReachedSet rows observed s
    found = reached_set rows observed within lits

    at : (p : ℕ) → one_if (is_and (row_at rows p) && found.0 p) ≡ one_if (is_and (row_at rows p))
    at p = elim (cases_Bool (is_and (row_at rows p))) [
      | inl h ↦ ap one_if (and_from (is_and (row_at rows p)) (found.0 p) h (reached p h found.0 found.1.closed found.1.observes)) ∙ sym (ap one_if h)
      | inr h ↦ ap (λ t. one_if (t && found.0 p)) h ∙ sym (ap one_if h)
    ]
