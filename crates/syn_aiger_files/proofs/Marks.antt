-- What a file says without the mark, it says with it.
use Rattle.std.proofs.Common.{◌≡◌, ◌&&◌, ◌==◌, length, Option, Some, None, Result, Ok, Err, true, false, refl, sym, ap, ◌∙◌, inl, inr}
use Rattle.std.proofs.lemmas.Bool.{and_parts, cases_Bool, cond-true, cond-false}
use Rattle.syn_aiger_files.specs.declared.fault.AigFault.{AigFault}
use Rattle.syn_aiger_files.specs.declared.fault.AigFault.TheVariants as faults
use Rattle.syn_aiger_files.specs.Files.{Aig, Header}
use Rattle.syn_aiger_files.specs.Laws.{SaysWithMark}
use Rattle.syn_aiger_files.specs.Parts.{and_then}
use Rattle.syn_aiger_files.specs.Spelling.{are_none, fits_numbers, header_in, header_of, judged, spelled, spelled_by, taken_by}
use Rattle.syn_aiger_files.specs.Texts.{behind, first_line, words_of}

no_value : {A : Type 0} (f : AigFault) (x : A) → Path (Result A AigFault) (Err f) (Ok x) → ⊥
no_value f x q = cc

taken_too : (h k : Header) → taken_by false h ≡ Ok k → taken_by true h ≡ Ok k
taken_too h k e = elim (cases_Bool (are_none h.further)) [
  | inl t ↦
      let b = and_parts (h.further.bad == 0) (h.further.constraints == 0 && (h.further.justice == 0 && h.further.fairness == 0)) t in
      let c = and_parts (h.further.constraints == 0) (h.further.justice == 0 && h.further.fairness == 0) b.1 in
      cond-true (h.further.justice == 0 && h.further.fairness == 0) (Ok h) (Err faults.Justice) c.1
      ∙ sym (cond-true (are_none h.further) (Ok h) (Err faults.Header) t)
      ∙ e
  | inr f ↦ absurd (no_value faults.Header k (sym (cond-false (are_none h.further) (Ok h) (Err faults.Header) f) ∙ e))
]

judged_too : (o : Option Header) (h : Header) → judged false o ≡ Ok h → judged true o ≡ Ok h
judged_too None h e = absurd (no_value faults.Header h e)
judged_too (Some k) h e = elim (cases_Bool (fits_numbers k)) [
  | inl t ↦ cond-true (fits_numbers k) (taken_by true k) (Err faults.Header) t ∙ taken_too k h (sym (cond-true (fits_numbers k) (taken_by false k) (Err faults.Header) t) ∙ e)
  | inr f ↦ absurd (no_value faults.Header h (sym (cond-false (fits_numbers k) (taken_by false k) (Err faults.Header) f) ∙ e))
]

pub says_with_mark : SaysWithMark
says_with_mark bytes g e = go (header_of false bytes) refl
  where
    next : Header → Result Aig AigFault
    next = spelled_by (length bytes) (behind 10 bytes)

    go : (r : Result Header AigFault) → header_of false bytes ≡ r → spelled true bytes ≡ Ok g
    go (Ok h) q = ap (λ (r : Result Header AigFault). and_then r next) (judged_too (header_in (words_of (first_line bytes))) h q ∙ sym q) ∙ e
    go (Err f) q = absurd (no_value f g (ap (λ (r : Result Header AigFault). and_then r next) (sym q) ∙ e))
