-- A line that is put together from the parts of a reader's pieces.
use Rattle.std.proofs.Common.{inl, inr, ◌-◌, min, add_assoc, ap₂, eq-eqb, not, cond, ◌≡◌, ℕ, ◌+◌, ◌<◌, ◌≤◌, ◌==◌, false, List, [], ◌∷◌, ◌++◌, length, take, drop, Option, None, Some, IfSome, IsSomeAnd, refl, sym, ap, subst, ◌∙◌, append_assoc, append-nil, length-append, arith}
use Rattle.std.specs.Io.KnownBytes.{Consumes, IsAtEnd, Keeps, prepend_known}
use Rattle.std.specs.List.{after_first, before_first, position_or_len}
use Rattle.std.proofs.lemmas.Bool.Decides.{nat_tests}
use Rattle.std.proofs.lemmas.List.Folds.{length-prefix_len, prefix_len-append}
use Rattle.std.proofs.lemmas.List.Sums.{prefix_len-le-length}
use Rattle.std.proofs.Math.Seq.{drop-append-add, take-append-add}
use Rattle.std.proofs.lemmas.Bool.{cases_lt}
use Rattle.std.proofs.lemmas.List.{drop-append-le, drop-drop, drop-take, drop_all, length-take, take-append-le, take_all}
use Rattle.syn_io.specs.Outside.{after_line, is_line_feed, next_line}

-- A part of a line was taken, in which there is no line feed.
pub record IsBegun (first now : Option (List ℕ)) (line : List ℕ) : Type 0 where
  pub consumed : Consumes first now line
  pub plain : position_or_len is_line_feed line ≡ length line

-- the place of the line feed behind a part that has none
place_behind : (line left : List ℕ) → position_or_len is_line_feed line ≡ length line →
    position_or_len is_line_feed (line ++ left) ≡ length line + position_or_len is_line_feed left
place_behind line left plain =
    prefix_len-append (λ b. not (is_line_feed b)) line left
    ∙ ap (λ b. cond b (length line + position_or_len is_line_feed left) (position_or_len is_line_feed line)) (eq-eqb (position_or_len is_line_feed line) (length line) plain)

-- and in front of a part, where it has one
place_before : (part left : List ℕ) → position_or_len is_line_feed part < length part →
    position_or_len is_line_feed (part ++ left) ≡ position_or_len is_line_feed part
place_before part left found =
    let differ : (position_or_len is_line_feed part == length part) ≡ false = grind (arith, nat_tests) in
    prefix_len-append (λ b. not (is_line_feed b)) part left
    ∙ ap (λ b. cond b (length part + position_or_len is_line_feed left) (position_or_len is_line_feed part)) differ

place_at_least : (part left : List ℕ) → position_or_len is_line_feed part ≤ position_or_len is_line_feed (part ++ left)
place_at_least part left = let whole = prefix_len-append (λ b. not (is_line_feed b)) part left in grind (arith, nat_tests)

next_line_some : (left : List ℕ) → 0 < length left → next_line left ≡ Some (before_first is_line_feed left)
next_line_some [] some = absurd (omega arith)
next_line_some (b ∷ bs) some = refl

pub begun : (first : Option (List ℕ)) → IsBegun first first []
begun None = record { consumed = tt; plain = refl }
begun (Some all) = record { consumed = refl; plain = refl }

pub begun_kept : (first now later : Option (List ℕ)) (line : List ℕ) → IsBegun first now line → Keeps now later → IsBegun first later line
begun_kept None now later line so_far kept = record { consumed = tt; plain = so_far.plain }
begun_kept (Some all) None later line so_far kept = absurd so_far.consumed
begun_kept (Some all) (Some left) None line so_far kept = absurd kept
begun_kept (Some all) (Some left) (Some same) line so_far kept = record { consumed = so_far.consumed ∙ ap (λ rest. line ++ rest) (sym kept); plain = so_far.plain }

-- what is taken of a part in which there is no line feed is the whole of it
pub begun_more : (first remaining : Option (List ℕ)) (line part : List ℕ) → IsBegun first (prepend_known part remaining) line →
    length part ≤ position_or_len is_line_feed part →
    IsBegun first (prepend_known (after_first is_line_feed part) remaining) (line ++ before_first is_line_feed part)
begun_more first remaining line part so_far none = record {
  consumed = go first remaining so_far.consumed;
  plain = subst (λ taken. position_or_len is_line_feed (line ++ taken) ≡ length (line ++ taken)) (sym whole)
      (place_behind line part so_far.plain ∙ ap (λ n. length line + n) place ∙ sym (length-append line part));
}
  where
    place : position_or_len is_line_feed part ≡ length part
    place = let within = prefix_len-le-length (λ b. not (is_line_feed b)) part in omega arith

    whole : before_first is_line_feed part ≡ part
    whole = take_all (position_or_len is_line_feed part) part none

    nothing : after_first is_line_feed part ≡ []
    nothing = drop_all (position_or_len is_line_feed part + 1) part (omega arith)

    go : (first remaining : Option (List ℕ)) → Consumes first (prepend_known part remaining) line →
        Consumes first (prepend_known (after_first is_line_feed part) remaining) (line ++ before_first is_line_feed part)
    go None remaining consumed = tt
    go (Some all) None consumed = absurd consumed
    go (Some all) (Some rest) consumed =
        consumed ∙ sym (append_assoc line part rest) ∙ ap₂ (λ taken left. (line ++ taken) ++ (left ++ rest)) (sym whole) (sym nothing)

-- the lines of a text that begins with a part in which there is no line feed, and goes on with one in which there is one
place_in : (line part rest : List ℕ) → position_or_len is_line_feed line ≡ length line → position_or_len is_line_feed part < length part →
    position_or_len is_line_feed (line ++ (part ++ rest)) ≡ length line + position_or_len is_line_feed part
place_in line part rest plain found = place_behind line (part ++ rest) plain ∙ ap (λ n. length line + n) (place_before part rest found)

line_of : (line part rest : List ℕ) → position_or_len is_line_feed line ≡ length line → position_or_len is_line_feed part < length part →
    next_line (line ++ (part ++ rest)) ≡ Some (line ++ before_first is_line_feed part)
line_of line part rest plain found =
    next_line_some (line ++ (part ++ rest)) (let whole = length-append line (part ++ rest) in let parts = length-append part rest in omega arith)
    ∙ ap (λ n. Some (take n (line ++ (part ++ rest)))) (place_in line part rest plain found)
    ∙ ap Some (take-append-add line (part ++ rest) (position_or_len is_line_feed part) ∙ ap (λ taken. line ++ taken) (take-append-le (position_or_len is_line_feed part) part rest (omega arith)))

left_of : (line part rest : List ℕ) → position_or_len is_line_feed line ≡ length line → position_or_len is_line_feed part < length part →
    after_line (line ++ (part ++ rest)) ≡ after_first is_line_feed part ++ rest
left_of line part rest plain found =
    ap (λ n. drop (n + 1) (line ++ (part ++ rest))) (place_in line part rest plain found)
    ∙ ap (λ n. drop n (line ++ (part ++ rest))) (add_assoc (length line) (position_or_len is_line_feed part) 1)
    ∙ drop-append-add line (part ++ rest) (position_or_len is_line_feed part + 1)
    ∙ drop-append-le (position_or_len is_line_feed part + 1) part rest (omega arith)

-- a part has the line feed
pub line_found : (first remaining : Option (List ℕ)) (line part : List ℕ) → IsBegun first (prepend_known part remaining) line →
    position_or_len is_line_feed part < length part →
    IfSome first (λ left. Some (line ++ before_first is_line_feed part) ≡ next_line left)
line_found None remaining line part so_far found = tt
line_found (Some all) None line part so_far found = absurd so_far.consumed
line_found (Some all) (Some rest) line part so_far found = sym (ap next_line so_far.consumed ∙ line_of line part rest so_far.plain found)

pub left_found : (first remaining : Option (List ℕ)) (line part : List ℕ) → IsBegun first (prepend_known part remaining) line →
    position_or_len is_line_feed part < length part →
    IfSome first (λ left. prepend_known (after_first is_line_feed part) remaining ≡ Some (after_line left))
left_found None remaining line part so_far found = tt
left_found (Some all) None line part so_far found = absurd so_far.consumed
left_found (Some all) (Some rest) line part so_far found = ap Some (sym (ap after_line so_far.consumed ∙ left_of line part rest so_far.plain found))

-- nothing is left behind the part that was taken
all_taken : (all left line : List ℕ) → all ≡ line ++ left → left ≡ [] → all ≡ line
all_taken all left line consumed ended = consumed ∙ ap (λ rest. line ++ rest) ended ∙ append-nil line

pub line_ended : (first now : Option (List ℕ)) (line : List ℕ) → IsBegun first now line → IsAtEnd now → 0 < length line →
    IfSome first (λ left. Some line ≡ next_line left)
line_ended None now line so_far ended some = tt
line_ended (Some all) None line so_far ended some = absurd so_far.consumed
line_ended (Some all) (Some left) line so_far ended some =
    sym (ap next_line (all_taken all left line so_far.consumed ended) ∙ next_line_some line some ∙ ap Some (take_all (position_or_len is_line_feed line) line (omega (arith, so_far.plain))))

pub left_ended : (first now : Option (List ℕ)) (line : List ℕ) → IsBegun first now line → IsAtEnd now →
    IfSome first (λ left. now ≡ Some (after_line left))
left_ended None now line so_far ended = tt
left_ended (Some all) None line so_far ended = absurd so_far.consumed
left_ended (Some all) (Some left) line so_far ended =
    ap Some (ended ∙ sym (ap after_line (all_taken all left line so_far.consumed ended) ∙ drop_all (position_or_len is_line_feed line + 1) line (omega (arith, so_far.plain))))

-- the line goes past the limit
pub line_longer : (first remaining : Option (List ℕ)) (line part : List ℕ) (limit : ℕ) → IsBegun first (prepend_known part remaining) line →
    limit < length line + position_or_len is_line_feed part →
    IfSome first (λ left. IsSomeAnd (next_line left) (λ next. limit < length next))
line_longer None remaining line part limit so_far longer = tt
line_longer (Some all) None line part limit so_far longer = absurd so_far.consumed
line_longer (Some all) (Some rest) line part limit so_far longer =
    subst (λ left. IsSomeAnd (next_line left) (λ next. limit < length next)) (sym so_far.consumed)
    (subst (λ next. IsSomeAnd next (λ line. limit < length line)) (sym (next_line_some whole (omega (arith, long, prefix_len-le-length (λ b. not (is_line_feed b)) whole))))
    (subst (λ n. limit < n) (sym (length-prefix_len (λ b. not (is_line_feed b)) whole)) long))
  where
    whole : List ℕ
    whole = line ++ (part ++ rest)

    long : limit < position_or_len is_line_feed whole
    long = let place = place_behind line (part ++ rest) so_far.plain in let more = place_at_least part rest in omega arith

-- what is left of a window of a buffer behind its first line feed
pub unread_behind : (buffer : List ℕ) (at end place now : ℕ) → at ≤ end → now ≡ min end (at + place + 1) →
    take (end - now) (drop now buffer) ≡ drop (place + 1) (take (end - at) (drop at buffer))
unread_behind buffer at end place now within is =
    elim (cases_lt end (at + place + 1)) [
      | inl past ↦
          let at_end : end - now ≡ 0 = omega arith in
          ap (λ n. take n (drop now buffer)) at_end
          ∙ sym (drop_all (place + 1) (take (end - at) (drop at buffer)) (let few = length-take (end - at) (drop at buffer) in omega arith))
      | inr inside ↦
          let next : now ≡ at + (place + 1) = omega arith in
          let room : end - at ≡ (place + 1) + (end - now) = omega arith in
          ap (λ n. take (end - now) (drop n buffer)) next
          ∙ ap (λ left. take (end - now) left) (sym (drop-drop (place + 1) at buffer))
          ∙ sym (drop-take (place + 1) (end - now) (drop at buffer))
          ∙ ap (λ n. drop (place + 1) (take n (drop at buffer))) (sym room)
    ]

-- The same after a step that read a piece and took a part of it: it leaves `now`, and the line is then `whole`.
pub record Step (first before read : Option (List ℕ)) (remaining now : Option (List ℕ)) (line part whole : List ℕ) : Type 0 where
  pub so_far : IsBegun first before line
  pub kept : Keeps before read
  pub is : read ≡ prepend_known part remaining
  pub left : now ≡ prepend_known (after_first is_line_feed part) remaining
  pub taken : whole ≡ line ++ before_first is_line_feed part

step_begun : (first before read remaining now : Option (List ℕ)) (line part whole : List ℕ) → Step first before read remaining now line part whole →
    IsBegun first (prepend_known part remaining) line
step_begun first before read remaining now line part whole step =
    subst (λ known. IsBegun first known line) step.is (begun_kept first before read line step.so_far step.kept)

pub step_more : (first before read remaining now : Option (List ℕ)) (line part whole : List ℕ) → Step first before read remaining now line part whole →
    length part ≤ position_or_len is_line_feed part → IsBegun first now whole
step_more first before read remaining now line part whole step none =
    subst (IsBegun first now) (sym step.taken)
    (subst (λ known. IsBegun first known (line ++ before_first is_line_feed part)) (sym step.left)
    (begun_more first remaining line part (step_begun first before read remaining now line part whole step) none))

pub step_line : (first before read remaining now : Option (List ℕ)) (line part whole : List ℕ) → Step first before read remaining now line part whole →
    position_or_len is_line_feed part < length part → IfSome first (λ left. Some whole ≡ next_line left)
step_line first before read remaining now line part whole step found =
    subst (λ taken. IfSome first (λ left. Some taken ≡ next_line left)) (sym step.taken)
    (line_found first remaining line part (step_begun first before read remaining now line part whole step) found)

pub step_left : (first before read remaining now : Option (List ℕ)) (line part whole : List ℕ) → Step first before read remaining now line part whole →
    position_or_len is_line_feed part < length part → IfSome first (λ left. now ≡ Some (after_line left))
step_left first before read remaining now line part whole step found =
    subst (λ known. IfSome first (λ left. known ≡ Some (after_line left))) (sym step.left)
    (left_found first remaining line part (step_begun first before read remaining now line part whole step) found)
