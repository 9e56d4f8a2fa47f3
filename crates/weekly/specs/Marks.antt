-- Changes of one mark, additions (true) or removals (false), and their bytes in a body.
use Rattle.std.specs.Prelude.{◌≡◌, ℕ, Bool, true, false, cond, not, List, [], ◌∷◌, ◌++◌, Ok}
use Rattle.pairs.specs.declared.change.Change.{Change}
use Rattle.pairs.specs.Orders.{change_before}
use Rattle.table.specs.Sets.{entered, sorted}
use Rattle.batch.specs.Changes.{put_answer}

abbrev pub same : Bool → Bool → Bool
same true x = x
same false x = not x

-- a key byte and a door byte for each change of the mark, in the order in which they stand
unfoldable pub bytes_of : Bool → List Change → List ℕ
bytes_of b [] = []
bytes_of b (c ∷ cs) = cond (same b c.added) (c.key ∷ c.door ∷ bytes_of b cs) (bytes_of b cs)

-- the pairs of a body as changes of the mark
unfoldable pub marked : Bool → List ℕ → List Change
marked b [] = []
marked b (k ∷ []) = []
marked b (k ∷ d ∷ rest) = record { key = k; door = d; added = b } ∷ marked b rest

-- the changes of two bodies, of additions and of removals, ascending
unfoldable pub merged : List ℕ → List ℕ → List Change
merged adds takes = sorted change_before (marked true adds ++ marked false takes)

-- a draft that holds cs takes the changes one after the other
abbrev pub TakenAll : List Change → List Change → ℕ → Type 0
TakenAll [] cs capacity = Unit {0}
TakenAll (x ∷ xs) cs capacity = (put_answer cs capacity x ≡ Ok tt) × TakenAll xs (entered change_before x cs) capacity
