-- What is known of a node's top and cuts stays where labels agree up to the node.
use Rattle.std.proofs.Common.{◌≡◌, ℕ, ◌<◌, true, List, [], ◌∷◌, slice_index_or, refl, sym, ◌∙◌, inl, inr, arith}
use Rattle.std.proofs.lemmas.Bool.{cases_lt}
use Rattle.syn_rows.specs.declared.Row.{Row}
use Rattle.syn_rows.specs.Nodes.{has_node}
use Rattle.syn_rows.specs.Rows.{InOrder, refs_of, row_at}
use Rattle.syn_rows.specs.Reach.{is_and}
use Rattle.syn_lutnet.specs.LutData.{greatest}
use Rattle.syn_paths.specs.Tops.{fan_in_label, IsInTop}
use Rattle.syn_paths.specs.Paths.{ArePathsInto, IsPathInto, LeadsUp}
use Rattle.syn_paths.specs.LeastCuts.{IsCutOutside, IsLeastCut}
use Rattle.syn_rows.proofs.Nodes.{has_here, has_there}
use Rattle.syn_cones.proofs.Walking.{led_below}
use Rattle.syn_paths.proofs.Falling.{and_refs, refers_below}

-- label functions agree below a node
abbrev pub AgreeBelow : ℕ → (ℕ → ℕ) → (ℕ → ℕ) → Type 0
AgreeBelow n f g = (m : ℕ) → m < n → f m ≡ g m

pub agree_back : (n : ℕ) (f g : ℕ → ℕ) → AgreeBelow n f g → AgreeBelow n g f
agree_back n f g same m lt = sym (same m lt)

pub same_top : (rows : List Row) (n level : ℕ) (f g : ℕ → ℕ) → InOrder rows → AgreeBelow n f g → (m : ℕ) → IsInTop rows f n level m → IsInTop rows g n level m
same_top rows n level f g order same m (inl e) = inl e
same_top rows n level f g order same m (inr (at, cone)) = elim (cases_lt m n) [
  | inl less ↦ inr (sym (same m less) ∙ at, cone)
  | inr past ↦ let low = led_below rows [] n cone.0 m order cone.1 in inl (omega (arith, past, low))
]

pub same_outside : (rows : List Row) (n level : ℕ) (f g : ℕ → ℕ) → InOrder rows → AgreeBelow n f g → (leaves : List ℕ) → IsCutOutside rows f n level leaves → IsCutOutside rows g n level leaves
same_outside rows n level f g order same leaves c = record {
  cut = c.cut;
  outside = λ m h top. c.outside m h (same_top rows n level g f order (agree_back n f g same) m top);
}

pub same_least : (rows : List Row) (n level : ℕ) (f g : ℕ → ℕ) → InOrder rows → AgreeBelow n f g → (leaves : List ℕ) → IsLeastCut rows f n level leaves → IsLeastCut rows g n level leaves
same_least rows n level f g order same leaves c = record {
  outside = same_outside rows n level f g order same leaves c.outside;
  rise = c.rise;
  fewest = λ other o. c.fewest other (same_outside rows n level g f order (agree_back n f g same) other o);
  least = λ other o e m inside. c.least other (same_outside rows n level g f order (agree_back n f g same) other o) e m inside;
}

same_up : (rows : List Row) (P Q : ℕ → Type 0) → ((m : ℕ) → P m → Q m) → (n : ℕ) (path : List ℕ) → LeadsUp rows P n path → LeadsUp rows Q n path
same_up rows P Q into n [] (t, top, r) = (t, into t top, r)
same_up rows P Q into n (m ∷ path) (r, up) = (r, same_up rows P Q into m path up)

same_path : (rows : List Row) (P Q : ℕ → Type 0) → ((m : ℕ) → P m → Q m) → ((m : ℕ) → Q m → P m) → (path : List ℕ) → IsPathInto rows P path → IsPathInto rows Q path
same_path rows P Q into back [] h = absurd h
same_path rows P Q into back (n ∷ path) (source, up, out) = (source, same_up rows P Q into n path up, λ k d lt in_q. out k d lt (back (slice_index_or (n ∷ path) k d) in_q))

pub same_paths : (rows : List Row) (n level count : ℕ) (f g : ℕ → ℕ) → InOrder rows → AgreeBelow n f g → (lists : List (List ℕ)) → ArePathsInto rows (IsInTop rows f n level) count lists → ArePathsInto rows (IsInTop rows g n level) count lists
same_paths rows n level count f g order same lists ps = record {
  count_is = ps.count_is;
  each = λ k d lt. same_path rows (IsInTop rows f n level) (IsInTop rows g n level) (same_top rows n level f g order same) (same_top rows n level g f order (agree_back n f g same)) (slice_index_or lists k d) (ps.each k d lt);
  once = ps.once;
}

pub greatest_same : (f g : ℕ → ℕ) (xs : List ℕ) → ((x : ℕ) → has_node xs x ≡ true → f x ≡ g x) → greatest f xs ≡ greatest g xs
greatest_same f g [] same = refl
greatest_same f g (x ∷ xs) same =
    let here = same x (has_here x xs) in
    let rest = greatest_same f g xs (λ y h. same y (has_there x y xs h)) in
    omega (arith, here, rest)

pub same_fan_in : (rows : List Row) (n : ℕ) (f g : ℕ → ℕ) → InOrder rows → is_and (row_at rows n) ≡ true → AgreeBelow n f g → fan_in_label rows f n ≡ fan_in_label rows g n
same_fan_in rows n f g order gate same = greatest_same f g (refs_of (row_at rows n)) (λ x h. same x (refers_below rows n x order (and_refs rows n x order gate h)))
