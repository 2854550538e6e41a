-- One word is stored, and the core with that word is laid out again.
use Rattle.std.proofs.Common.{◌≡◌, ℕ, ◌+◌, ◌*◌, ◌<◌, List, length, set, get_or, length-set, sym, ap, ◌∙◌, subst, arith, inl, inr}
use Rattle.std.proofs.lemmas.List.{get_or-set_same, get_or-set_other}
use Rattle.std.proofs.lemmas.Bool.{cases_eq}
use Rattle.syn_rows.specs.declared.Row.{Row}
use Rattle.syn_rows.specs.declared.Row.TheVariants.{Free}
use Rattle.syn_rows.specs.Packing.{word_of}
use Rattle.syn_rows.specs.Rows.{row_at}
use Rattle.syn_core_laws.specs.declared.View.{View}
use Rattle.syn_core_laws.specs.Cores.{Core}
use Rattle.syn_table.specs.Laying.{IsLaid, node_at}

-- a word of one kind is stored, and so is the entry of its list: the words of this kind are still the list
stored : (words list : List ℕ) (kind nodes n x : ℕ) → n < nodes → n < length list → kind + 4 * n < length words
    → ((m : ℕ) → m < nodes → get_or words (kind + 4 * m) 0 ≡ get_or list m 0)
    → (m : ℕ) → m < nodes → get_or (set words (kind + 4 * n) x) (kind + 4 * m) 0 ≡ get_or (set list n x) m 0
stored words list kind nodes n x lt there inside laid m h = elim (cases_eq m n) [
  | inl same ↦ subst (λ k. get_or (set words (kind + 4 * n) x) (kind + 4 * k) 0 ≡ get_or (set list n x) k 0) (sym same)
      (get_or-set_same words (kind + 4 * n) x 0 inside ∙ sym (get_or-set_same list n x 0 there))
  | inr ne ↦ get_or-set_other words (kind + 4 * n) (kind + 4 * m) x 0 (λ e. ne (omega arith)) ∙ (laid m h ∙ sym (get_or-set_other list n m x 0 ne))
]

-- a claim is stored
pub laid_claim : (words : List ℕ) (c : Core) (n x : ℕ) (seats : List View) → IsLaid words c → n < length c.rows → length c.claims ≡ length c.rows
    → IsLaid (set words (1 + 4 * n) x) (record c { claims = set c.claims n x; seats = seats })
laid_claim words c n x seats l lt count = record {
  size = length-set words (1 + 4 * n) x ∙ l.size;
  claims = stored words c.claims 1 (length c.rows) n x lt (omega arith) (omega (arith, l.size)) l.claims;
  rows = λ m h. get_or-set_other words (1 + 4 * n) (2 + 4 * m) x 0 (λ e. omega arith) ∙ l.rows m h;
  counts = λ m h. get_or-set_other words (1 + 4 * n) (3 + 4 * m) x 0 (λ e. omega arith) ∙ l.counts m h;
  keys = λ m h. get_or-set_other words (1 + 4 * n) (4 + 4 * m) x 0 (λ e. omega arith) ∙ l.keys m h;
}

-- a count is stored
pub laid_count : (words : List ℕ) (c : Core) (n x : ℕ) (seats : List View) → IsLaid words c → n < length c.rows → length c.counts ≡ length c.rows
    → IsLaid (set words (3 + 4 * n) x) (record c { counts = set c.counts n x; seats = seats })
laid_count words c n x seats l lt count = record {
  size = length-set words (3 + 4 * n) x ∙ l.size;
  claims = λ m h. get_or-set_other words (3 + 4 * n) (1 + 4 * m) x 0 (λ e. omega arith) ∙ l.claims m h;
  rows = λ m h. get_or-set_other words (3 + 4 * n) (2 + 4 * m) x 0 (λ e. omega arith) ∙ l.rows m h;
  counts = stored words c.counts 3 (length c.rows) n x lt (omega arith) (omega (arith, l.size)) l.counts;
  keys = λ m h. get_or-set_other words (3 + 4 * n) (4 + 4 * m) x 0 (λ e. omega arith) ∙ l.keys m h;
}

-- a key is stored
pub laid_key : (words : List ℕ) (c : Core) (n x : ℕ) (seats : List View) → IsLaid words c → n < length c.rows → length c.keys ≡ length c.rows
    → IsLaid (set words (4 + 4 * n) x) (record c { keys = set c.keys n x; seats = seats })
laid_key words c n x seats l lt count = record {
  size = length-set words (4 + 4 * n) x ∙ l.size;
  claims = λ m h. get_or-set_other words (4 + 4 * n) (1 + 4 * m) x 0 (λ e. omega arith) ∙ l.claims m h;
  rows = λ m h. get_or-set_other words (4 + 4 * n) (2 + 4 * m) x 0 (λ e. omega arith) ∙ l.rows m h;
  counts = λ m h. get_or-set_other words (4 + 4 * n) (3 + 4 * m) x 0 (λ e. omega arith) ∙ l.counts m h;
  keys = stored words c.keys 4 (length c.rows) n x lt (omega arith) (omega (arith, l.size)) l.keys;
}

-- a row is stored
pub laid_row : (words : List ℕ) (c : Core) (n : ℕ) (r : Row) (seats : List View) → IsLaid words c → n < length c.rows
    → IsLaid (set words (2 + 4 * n) (word_of r)) (record c { rows = set c.rows n r; seats = seats })
laid_row words c n r seats l lt =
    let long : length (set c.rows n r) ≡ length c.rows = length-set c.rows n r in
    record {
      size = length-set words (2 + 4 * n) (word_of r) ∙ (l.size ∙ ap (λ k. 1 + 4 * k) (sym long));
      claims = λ m h. get_or-set_other words (2 + 4 * n) (1 + 4 * m) (word_of r) 0 (λ e. omega arith) ∙ l.claims m (omega arith);
      rows = λ m h. elim (cases_eq m n) [
        | inl same ↦ subst (λ k. get_or (set words (2 + 4 * n) (word_of r)) (2 + 4 * k) 0 ≡ word_of (row_at (set c.rows n r) k)) (sym same)
            (get_or-set_same words (2 + 4 * n) (word_of r) 0 (omega (arith, l.size)) ∙ ap word_of (sym (get_or-set_same c.rows n r Free lt)))
        | inr ne ↦ get_or-set_other words (2 + 4 * n) (2 + 4 * m) (word_of r) 0 (λ e. ne (omega arith)) ∙ (l.rows m (omega arith) ∙ ap word_of (sym (get_or-set_other c.rows n m r Free ne)))
      ];
      counts = λ m h. get_or-set_other words (2 + 4 * n) (3 + 4 * m) (word_of r) 0 (λ e. omega arith) ∙ l.counts m (omega arith);
      keys = λ m h. get_or-set_other words (2 + 4 * n) (4 + 4 * m) (word_of r) 0 (λ e. omega arith) ∙ l.keys m (omega arith);
    }

-- a seat's view changes and no word does
pub laid_same : (words : List ℕ) (c : Core) (seats : List View) → IsLaid words c → IsLaid words (record c { seats = seats })
laid_same words c seats l = record { size = l.size; claims = l.claims; rows = l.rows; counts = l.counts; keys = l.keys }

-- the node of each kind of word
pub claim_node : (n : ℕ) → node_at (1 + 4 * n) ≡ n
claim_node n = omega arith

pub row_node : (n : ℕ) → node_at (2 + 4 * n) ≡ n
row_node n = omega arith

pub count_node : (n : ℕ) → node_at (3 + 4 * n) ≡ n
count_node n = omega arith

pub key_node : (n : ℕ) → node_at (4 + 4 * n) ≡ n
key_node n = omega arith
