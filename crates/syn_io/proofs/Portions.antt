-- What a reader has left and a writer holds, portion by portion.
use Rattle.std.proofs.Common.{◌≡◌, ℕ, ◌<◌, List, [], ◌++◌, Option, None, Some, sym, ap, ◌∙◌, append_assoc}
use Rattle.std.specs.Io.KnownBytes.{Appends}

-- a writer that held some bytes took a first part of others, of which the rest is left
pub record IsWritten (before now : Option (List ℕ)) (bytes rest : List ℕ) : Type 0 where
  pub part : List ℕ
  pub is : bytes ≡ part ++ rest
  pub taken : Appends before now part

pub appends_both : (first between last : Option (List ℕ)) (one two : List ℕ) → Appends first between one → Appends between last two →
    Appends first last (one ++ two)
appends_both None between last one two a b = tt
appends_both (Some x) None last one two a b = absurd a
appends_both (Some x) (Some y) None one two a b = absurd b
appends_both (Some x) (Some y) (Some z) one two a b = b ∙ ap (λ held. held ++ two) a ∙ append_assoc x one two

-- one more portion of the rest was taken
pub written_more : (before between now : Option (List ℕ)) (bytes rest portion left : List ℕ) → IsWritten before between bytes rest →
    rest ≡ portion ++ left → Appends between now portion → IsWritten before now bytes left
written_more before between now bytes rest portion left so_far cut more = record {
  part = so_far.part ++ portion;
  is = so_far.is ∙ ap (λ r. so_far.part ++ r) cut ∙ sym (append_assoc so_far.part portion left);
  taken = appends_both before between now so_far.part portion so_far.taken more;
}
