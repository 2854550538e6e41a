-- Lists in parts, as cuts and parts are appended and lists are set.
use Rattle.std.proofs.Common.{◌≡◌, ℕ, zero, suc, ◌+◌, ◌<◌, ◌≤◌, All, List, [], ◌∷◌, ◌++◌, get_or, length, take, drop, replicate, refl, sym, ap, ap₂, ◌∙◌, inl, inr, ◌⊎◌, arith}
use Rattle.std.proofs.Math.ListN.{set, get_or-append}
use Rattle.std.proofs.Math.Seq.{drop-append_seam, get_or-append_seam}
use Rattle.std.proofs.lemmas.Bool.Decides.{eqb_tells}
use Rattle.std.proofs.lemmas.Grind.{get_or-set_at}
use Rattle.std.proofs.lemmas.List.{length-append, length-drop, map-append, map-set, take_all, take-append-le, drop-append-le, get_or-set_other, with_items_is}
use Rattle.std.proofs.lemmas.List.Elements.{All-nil, All-head, All-cons, All-tail, All-set, All-weaker}
use Rattle.std.specs.Global.{Vec}
use Rattle.std.specs.Vec.{with_items}
use Rattle.arrayvec.specs.ArrayVec.{ArrayVec}
use Rattle.syn_cuts.specs.declared.found.Entry.{Entry}
use Rattle.syn_cuts.specs.declared.lists.Span.{Span}
use Rattle.syn_rows.specs.declared.Row.{Row}
use Rattle.syn_cuts.specs.Cuts.{listed_cuts}
use Rattle.syn_cuts.specs.Leaves.{leaves_of}
use Rattle.syn_cuts.specs.Lists.{part_at, cuts_at, lists_in, IsWithin, IsFound, IsInside, entry_in, list_at, found_in, span_of, with_spans, with_lists}
use Rattle.syn_cuts.proofs.Putting.{take_leaves}

-- the leaves of the cuts from a place on

rest_leaves : (cuts : List (ArrayVec ℕ)) (start : ℕ) → leaves_of (drop start cuts) ≡ drop start (leaves_of cuts)
rest_leaves cuts zero = refl
rest_leaves [] (suc start) = refl
rest_leaves (c ∷ cs) (suc start) = rest_leaves cs start

pub slice_leaves : (cuts : List (ArrayVec ℕ)) (start len : ℕ) → leaves_of (take len (drop start cuts)) ≡ take len (drop start (leaves_of cuts))
slice_leaves cuts start len = take_leaves (drop start cuts) len ∙ ap (take len) (rest_leaves cuts start)

-- a list in a part that grows, and the one at its end

list_kept : (part more : List (List ℕ)) (start len : ℕ) → start + len ≤ length part → take len (drop start (part ++ more)) ≡ take len (drop start part)
list_kept part more start len le =
    let rest = length-drop start part in
    ap (take len) (drop-append-le start part more (omega (arith, le))) ∙ take-append-le len (drop start part) more (omega (arith, rest, le))

list_added : (part more : List (List ℕ)) (start len : ℕ) → start ≡ length part → len ≡ length more → take len (drop start (part ++ more)) ≡ more
list_added part more start len e f =
    ap (λ n. take len (drop n (part ++ more))) e ∙ ap (take len) (drop-append_seam part more) ∙ take_all len more (omega (arith, f))

-- lists that were found, as one more is appended

found_kept : (part more : List (List ℕ)) (entries : List Entry) → All (IsInside part) entries → found_in (part ++ more) entries ≡ found_in part entries
found_kept part more [] inside = refl
found_kept part more (e ∷ es) inside =
    ap₂ (λ (x : List (List ℕ)) (l : List (ℕ × List (List ℕ))). (e.node, x) ∷ l)
    (list_kept part more e.start e.len (All-head (IsInside part) e es inside))
    (found_kept part more es (All-tail (IsInside part) e es inside))

pub found_more : (part new more : List (List ℕ)) (entries : List Entry) (e : Entry) → All (IsInside part) entries → new ≡ part ++ more → e.start ≡ length part → e.start + e.len ≡ length new
    → found_in new (entries ++ e ∷ []) ≡ found_in part entries ++ (e.node, more) ∷ []
found_more part new more entries e inside is start end =
    let size = ap length is ∙ length-append part more in
    map-append (entry_in new) entries (e ∷ [])
    ∙ ap₂ (λ (l : List (ℕ × List (List ℕ))) (x : List (List ℕ)). l ++ (e.node, x) ∷ [])
    (ap (λ p. found_in p entries) is ∙ found_kept part more entries inside)
    (ap (λ p. take e.len (drop e.start p)) is ∙ list_added part more e.start e.len start (omega (arith, size, start, end)))

-- the list at a place, where all are listed cuts
pub found_at : (k : ℕ) (rows : List Row) (part : List (List ℕ)) (entries : List Entry) (i : ℕ) (d : Entry) → i < length entries → All (IsFound k rows) (found_in part entries)
    → take (get_or entries i d).len (drop (get_or entries i d).start part) ≡ list_at (listed_cuts k rows) (get_or entries i d).node
found_at k rows part [] i d lt all = absurd (omega arith)
found_at k rows part (e ∷ es) zero d lt all = (All-head (IsFound k rows) (entry_in part e) (found_in part es) all).1
found_at k rows part (e ∷ es) (suc i) d lt all = found_at k rows part es i d (omega (arith, lt)) (All-tail (IsFound k rows) (entry_in part e) (found_in part es) all)

-- lists in parts where nothing in a part is moved

abbrev Keeps : List (List (List ℕ)) → List (List (List ℕ)) → Type 0
Keeps parts new = (s : Span) → IsWithin parts s → cuts_at new s ≡ cuts_at parts s

lists_kept : (parts new : List (List (List ℕ))) (spans : List Span) → Keeps parts new → All (IsWithin parts) spans → lists_in new spans ≡ lists_in parts spans
lists_kept parts new [] keeps within = refl
lists_kept parts new (s ∷ ss) keeps within =
    ap₂ (λ (x : List (List ℕ)) (l : List (List (List ℕ))). x ∷ l)
    (keeps s (All-head (IsWithin parts) s ss within))
    (lists_kept parts new ss keeps (All-tail (IsWithin parts) s ss within))

-- cuts appended to a part

at_part : (parts : List (List (List ℕ))) (n m : ℕ) (new : List (List ℕ)) → n < length parts → ((m ≡ n) × (part_at (set parts n new) m ≡ new)) ⊎ (part_at (set parts n new) m ≡ part_at parts m)
at_part parts n m new lt = elim (eqb_tells m n) [ inl p ↦ inl (p.1, get_or-set_at parts n m new [] p.1 lt) | inr p ↦ inr (get_or-set_other parts n m new [] p.1) ]

grown_keeps : (parts : List (List (List ℕ))) (n : ℕ) (more : List (List ℕ)) → n < length parts → Keeps parts (set parts n (part_at parts n ++ more))
grown_keeps parts n more lt s h =
    elim (at_part parts n s.part (part_at parts n ++ more) lt) [
      | inl at ↦
          let same = ap (part_at parts) at.0 in
          ap (λ p. take s.len (drop s.start p)) (at.1 ∙ ap (λ (p : List (List ℕ)). p ++ more) (sym same)) ∙ list_kept (part_at parts s.part) more s.start s.len h.1
      | inr other ↦ ap (λ p. take s.len (drop s.start p)) other
    ]

-- a node's list set, as it is appended to a part
pub list_set : (parts : List (List (List ℕ))) (n : ℕ) (new more : List (List ℕ)) (spans : List Span) (i : ℕ) (s : Span) → n < length parts → All (IsWithin parts) spans → new ≡ part_at parts n ++ more
    → s.part ≡ n → s.start ≡ length (part_at parts n) → s.start + s.len ≡ length new → lists_in (set parts n new) (set spans i s) ≡ set (lists_in parts spans) i more
list_set parts n new more spans i s lt within is part start end =
    let size = ap length is ∙ length-append (part_at parts n) more in
    let here : cuts_at (set parts n new) s ≡ more =
    ap (λ p. take s.len (drop s.start p)) (get_or-set_at parts n s.part new [] part lt ∙ is)
    ∙ list_added (part_at parts n) more s.start s.len start (omega (arith, size, start, end)) in
    map-set (cuts_at (set parts n new)) spans i s
    ∙ ap₂ (λ (l : List (List (List ℕ))) (x : List (List ℕ)). set l i x)
    (ap (λ p. lists_in (set parts n p) spans) is ∙ lists_kept parts (set parts n (part_at parts n ++ more)) spans (grown_keeps parts n more lt) within)
    here

-- one more part

pub within_pushed : (parts : List (List (List ℕ))) (part : List (List ℕ)) (spans : List Span) → All (IsWithin parts) spans → All (IsWithin (parts ++ part ∷ [])) spans
within_pushed parts part spans = All-weaker (IsWithin parts) (IsWithin (parts ++ part ∷ [])) each spans
  where
    each : (s : Span) → IsWithin parts s → IsWithin (parts ++ part ∷ []) s
    each s h =
        let count = length-append parts (part ∷ []) in
        let same = ap length (get_or-append parts (part ∷ []) [] s.part h.0) in
        let there = h.0 in
        let ends = h.1 in
        (omega (arith, count, there), omega (arith, ends, same))

pushed_keeps : (parts : List (List (List ℕ))) (part : List (List ℕ)) → Keeps parts (parts ++ part ∷ [])
pushed_keeps parts part s h = ap (λ p. take s.len (drop s.start p)) (get_or-append parts (part ∷ []) [] s.part h.0)

-- the spans of lists that were found, in the part that has them

spans_lists : (parts : List (List (List ℕ))) (n : ℕ) (part : List (List ℕ)) (spans : List Span) (entries : List Entry) → part_at parts n ≡ part → lists_in parts (with_spans n spans entries) ≡ with_lists (lists_in parts spans) (found_in part entries)
spans_lists parts n part spans [] at = refl
spans_lists parts n part spans (e ∷ es) at =
    spans_lists parts n part (set spans e.node (span_of n e)) es at
    ∙ ap (λ (l : List (List (List ℕ))). with_lists l (found_in part es)) (map-set (cuts_at parts) spans e.node (span_of n e) ∙ ap (λ p. set (lists_in parts spans) e.node (take e.len (drop e.start p))) at)

spans_within : (parts : List (List (List ℕ))) (n : ℕ) (part : List (List ℕ)) (spans : List Span) (entries : List Entry) → n < length parts → part_at parts n ≡ part → All (IsInside part) entries
    → All (IsWithin parts) spans → All (IsWithin parts) (with_spans n spans entries)
spans_within parts n part spans [] lt at inside within = within
spans_within parts n part spans (e ∷ es) lt at inside within =
    let same = ap length at in
    let ends = All-head (IsInside part) e es inside in
    spans_within parts n part (set spans e.node (span_of n e)) es lt at (All-tail (IsInside part) e es inside)
    (All-set (IsWithin parts) spans e.node (span_of n e) (lt, omega (arith, ends, same)) within)

pub found_set : (parts : List (List (List ℕ))) (part : List (List ℕ)) (spans : List Span) (entries : List Entry) → All (IsWithin parts) spans
    → lists_in (parts ++ part ∷ []) (with_spans (length parts) spans entries) ≡ with_lists (lists_in parts spans) (found_in part entries)
found_set parts part spans entries within =
    spans_lists (parts ++ part ∷ []) (length parts) part spans entries (get_or-append_seam parts part [] [])
    ∙ ap (λ (l : List (List (List ℕ))). with_lists l (found_in part entries)) (lists_kept parts (parts ++ part ∷ []) spans (pushed_keeps parts part) within)

pub found_within : (parts : List (List (List ℕ))) (part : List (List ℕ)) (spans : List Span) (entries : List Entry) → All (IsInside part) entries → All (IsWithin parts) spans
    → All (IsWithin (parts ++ part ∷ [])) (with_spans (length parts) spans entries)
found_within parts part spans entries inside within =
    let count = length-append parts (part ∷ []) in
    spans_within (parts ++ part ∷ []) (length parts) part spans entries (omega (arith, count)) (get_or-append_seam parts part [] []) inside (within_pushed parts part spans within)

-- spans that were set through a loan, of entries that were lent
pub spans_lent : (spans : Vec Span) (lent new : List Span) (entries read : List Entry) (n number : ℕ) → lent ≡ spans.items → length lent ≡ spans.len → read ≡ entries → number ≡ n → length new ≡ length lent
    → new ≡ with_spans number lent read → (with_items spans new).items ≡ with_spans n spans.items entries
spans_lent spans lent new entries read n number is size same at count set =
    with_items_is spans new (count ∙ size) ∙ set ∙ ap (λ k. with_spans k lent read) at ∙ ap₂ (with_spans n) is same

-- the nodes of lists that were found
pub entries_below : (n : ℕ) (part : List (List ℕ)) (entries : List Entry) → All (λ f. f.0 < n) (found_in part entries) → All (λ e. e.node < n) entries
entries_below n part [] h = All-nil (λ e. e.node < n)
entries_below n part (e ∷ es) h =
    All-cons (λ x. x.node < n) e es (All-head (λ f. f.0 < n) (entry_in part e) (found_in part es) h) (entries_below n part es (All-tail (λ f. f.0 < n) (entry_in part e) (found_in part es) h))

-- no lists yet
pub no_lists : (parts : List (List (List ℕ))) (s : Span) (n : ℕ) → s.len ≡ 0 → lists_in parts (replicate n s) ≡ replicate n []
no_lists parts s zero e = refl
no_lists parts s (suc n) e = ap₂ (λ (x : List (List ℕ)) (l : List (List (List ℕ))). x ∷ l) (ap (λ k. take k (drop s.start (part_at parts s.part))) e) (no_lists parts s n e)
