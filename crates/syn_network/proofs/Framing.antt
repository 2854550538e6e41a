-- A frame over more names: what it keeps, and that it is the same in words.
use Rattle.std.proofs.Common.{◌≡◌, ℕ, ◌&&◌, nat_lt, not, true, List, [], ◌∷◌, length, map, bytes_eq, Option, Some, None, refl, ap, ap₂, ◌∙◌}
use Rattle.std.specs.List.{list_all}
use Rattle.std.proofs.lemmas.Bool.{and_parts, and_from, ltb-true}
use Rattle.syn_netlist.specs.declared.LatchKind.{LatchKind}
use Rattle.syn_netlist.specs.declared.Latch.{Latch}
use Rattle.syn_netlist.specs.declared.frames.Frame.{Frame}
use Rattle.syn_netlist.specs.Kept.{frame_of, latch_in, latch_numbers, latches_below, control_number, nil_word, no_nil_control}
use Rattle.syn_netlist.specs.Frames.{frame_in}
use Rattle.syn_netlist.specs.Lists as lists
use Rattle.syn_netlist.specs.Numbers.{word_at, words_at, all_below, Grows}
use Rattle.syn_netlist.proofs.Growing.{word_at-grows, words_at-grows, latches_in-grows}

no_nil_kind : (names more : List (List ℕ)) (kind : Option (LatchKind × Option ℕ)) → Grows names more → all_below (length names) (control_number kind) ≡ true
    → list_all (λ i. not (bytes_eq nil_word (word_at names i))) (control_number kind) ≡ true → list_all (λ i. not (bytes_eq nil_word (word_at more i))) (control_number kind) ≡ true
no_nil_kind names more None g below h = refl
no_nil_kind names more (Some (kind, None)) g below h = refl
no_nil_kind names more (Some (kind, Some i)) g below h =
    ap (λ (w : List ℕ). not (bytes_eq nil_word w) && true) (word_at-grows names more i g (ltb-true i (length names) (and_parts (nat_lt i (length names)) true below).0)) ∙ h

pub no_nil-grows : (names more : List (List ℕ)) (latches : List Latch) → Grows names more → latches_below (length names) latches ≡ true → no_nil_control names latches ≡ true → no_nil_control more latches ≡ true
no_nil-grows names more [] g below h = refl
no_nil-grows names more (l ∷ ls) g below h =
    let n : ℕ = length names in
    let parts = and_parts (all_below n (latch_numbers l)) (latches_below n ls) below in
    let outputs = and_parts (nat_lt l.feed n) (nat_lt l.output n && all_below n (control_number l.kind)) parts.0 in
    let control = and_parts (nat_lt l.output n) (all_below n (control_number l.kind)) outputs.1 in
    let here = and_parts (list_all (λ i. not (bytes_eq nil_word (word_at names i))) (control_number l.kind)) (no_nil_control names ls) h in
    and_from (list_all (λ i. not (bytes_eq nil_word (word_at more i))) (control_number l.kind)) (no_nil_control more ls) (no_nil_kind names more l.kind g control.1 here.0) (no_nil-grows names more ls g parts.1 here.1)

-- the frame by numbers of these parts over more names is the same frame in words
pub same_frame : (f : Frame) (more : List (List ℕ)) (model : List ℕ) (inputs clocks outputs : List ℕ) (latches : List Latch) → Grows f.names more → model ≡ f.model → inputs ≡ f.inputs → clocks ≡ f.clocks → outputs ≡ f.outputs → latches ≡ f.latches
    → frame_of more model inputs clocks outputs latches ≡ frame_in f
same_frame f more model inputs clocks outputs latches g em ei ec eo el =
    ap₂ (λ (m : List ℕ) (i : List (List ℕ)). let fr : lists.Frame = record { model = m; inputs = i; clocks = words_at more clocks; outputs = words_at more outputs; latches = map (latch_in more) latches } in fr)
    em (ap (words_at more) ei ∙ words_at-grows f.names more f.inputs g f.inputs_below)
    ∙ ap₂ (λ (c o : List (List ℕ)). let fr : lists.Frame = record { model = f.model; inputs = words_at f.names f.inputs; clocks = c; outputs = o; latches = map (latch_in more) latches } in fr)
    (ap (words_at more) ec ∙ words_at-grows f.names more f.clocks g f.clocks_below) (ap (words_at more) eo ∙ words_at-grows f.names more f.outputs g f.outputs_below)
    ∙ ap (λ (l : List lists.Latch). let fr : lists.Frame = record { model = f.model; inputs = words_at f.names f.inputs; clocks = words_at f.names f.clocks; outputs = words_at f.names f.outputs; latches = l } in fr)
    (ap (map (latch_in more)) el ∙ latches_in-grows f.names more f.latches g f.latches_below)
