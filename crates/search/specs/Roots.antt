-- Where a search begins.
use Rattle.std.specs.Prelude.{◌≡◌, ℕ, List, [], Some, None, Option}
use Rattle.search.specs.declared.states.Node.{Node}
use Rattle.search.specs.Nodes.{IsNode}
use Rattle.search.specs.Parts.{scope_list}

-- the node lists what has all keys of `base` and none of `off`
pub record Begins (rows cols watched : List ℕ) (D base off : ℕ) (node : Node) : Type 0 where
  pub state : IsNode rows cols watched D node.keys node.out node.doors node.marks node.left
  pub lists : scope_list rows D watched base off ≡ scope_list rows D watched node.keys node.out

-- a node to begin with, or none where there is nothing to list
abbrev pub Root : List ℕ → List ℕ → List ℕ → ℕ → ℕ → ℕ → Option Node → Type 0
Root rows cols watched D base off None = scope_list rows D watched base off ≡ []
Root rows cols watched D base off (Some node) = Begins rows cols watched D base off node
