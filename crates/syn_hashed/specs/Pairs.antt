-- The index of pairs: each AND is in a bucket, which its pair gives; a bucket has its greatest node, and each node the next smaller one of its bucket.
use Rattle.std.specs.Prelude.{◌≡◌, ◌≢◌, ℕ, ◌+◌, ◌*◌, ◌/◌, ◌%◌, ◌<◌, ◌≤◌, List, length, slice_index_or, Option, Some, None}
use Rattle.syn_rows.specs.declared.Lit.{Lit}
use Rattle.syn_rows.specs.declared.Row.{Row}
use Rattle.syn_rows.specs.declared.Row.TheVariants.{Free, Source, And, Alias}
use Rattle.syn_rows.specs.Rows.{row_at}

-- the bucket of a pair, of so many; any function of the pair would do
abbrev pub bucket : ℕ → Lit → Lit → ℕ
bucket count a b = ((a.0 * 2654435769) % 4294967296 + (b.0 * 2246822519) % 4294967296) % 4294967296 * count / 4294967296

-- the bucket of an AND
abbrev pub bucket_of : ℕ → Row → Option ℕ
bucket_of count Free = None
bucket_of count Source = None
bucket_of count (And a b) = Some (bucket count a b)
bucket_of count (Alias a) = None

-- the node's row is an AND of this bucket
abbrev pub IsIn : ℕ → List Row → ℕ → ℕ → Type 0
IsIn count rows k n = bucket_of count (row_at rows n) ≡ Some k

-- the number at a place, 0 past the end
abbrev pub number_at : List ℕ → ℕ → ℕ
number_at numbers i = slice_index_or numbers i 0

-- the greatest node of a bucket below a bound, or 0 where there is none
pub record IsGreatest (count : ℕ) (rows : List Row) (k bound n : ℕ) : Type 0 where
  pub own : n ≢ 0 → IsIn count rows k n
  pub below : n ≢ 0 → n < bound
  pub greatest : (m : ℕ) → m < bound → IsIn count rows k m → m ≤ n

-- The index of rows, with so many buckets: the greatest node of each bucket, and for each AND the next smaller node of its bucket.
pub record IsIndex (count : ℕ) (rows : List Row) (heads next : List ℕ) : Type 0 where
  pub many : length heads ≡ count
  pub some : 0 < count
  pub long : length rows ≤ length next
  pub of_bucket : (k : ℕ) → k < count → IsGreatest count rows k (length rows) (number_at heads k)
  pub of_node : (k n : ℕ) → IsIn count rows k n → IsGreatest count rows k n (number_at next n)
