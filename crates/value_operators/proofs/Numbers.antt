-- What reading keeps: the numbers of the nodes are ints, and those of the lexemes are ones that a text may hold.
use Rattle.std.proofs.Common.{◌≡◌, ℕ, zero, suc, ◌<◌, ◌≤◌, false, List, [], ◌∷◌, Some, slice_get, subst, arith}
use Rattle.std.proofs.lemmas.Bool.Decides.{nat_tests}
use Rattle.scj_base.specs.Lexeme.{greatest_number}
use Rattle.scj_tree.specs.declared.nodes.Node.{Node}
use Rattle.scj_tree.specs.Lexemes.{Lexeme, a_number}
use Rattle.scj_tree.specs.Nodes.{put}
use Rattle.scj_tree.specs.Terminals.{is_minimum}
use Rattle.value_operators.specs.Literals.{HasInt}

unfoldable pub AllInts : List Node → Type 0
AllInts [] = Unit {0}
AllInts (node ∷ nodes) = HasInt node × AllInts nodes

-- a text may hold the lexeme, if it is a number
unfoldable pub IsSmall : Lexeme → Type 0
IsSmall (a_number n p) = n ≤ greatest_number
IsSmall _ = Unit {0}

unfoldable pub AllSmall : List Lexeme → Type 0
AllSmall [] = Unit {0}
AllSmall (x ∷ xs) = IsSmall x × AllSmall xs

-- between two lexemes: the nodes that were read, and the lexemes that are left
pub record Fits (N : List Node) (i : List Lexeme) : Type 0 where
  pub ints : AllInts N
  pub small : AllSmall i

ints-put : (N : List Node) (node : Node) → AllInts N → HasInt node → AllInts (put N node)
unfolding AllInts
ints-put [] node h k = (k, tt)
ints-put (n ∷ N) node h k = (h.0, ints-put N node h.1 k)

pub int_at : (N : List Node) (id : ℕ) (node : Node) → AllInts N → slice_get N id ≡ Some node → HasInt node
unfolding AllInts
int_at [] id node h e = absurd (cc)
int_at (n ∷ N) zero node h e = let same : n ≡ node = cc in subst HasInt same h.0
int_at (n ∷ N) (suc id) node h e = int_at N id node h.1 e

-- a node is read
pub made : {N : List Node} {i : List Lexeme} (node : Node) → Fits N i → HasInt node → Fits (put N node) i
made {N} {i} node h k = record { ints = ints-put N node h.ints k; small = h.small }

-- lexemes are read
pub behind : {N : List Node} {x : Lexeme} {i : List Lexeme} → Fits N (x ∷ i) → Fits N i
unfolding AllSmall
behind h = record { ints = h.ints; small = h.small.1 }

pub behind2 : {N : List Node} {x y : Lexeme} {i : List Lexeme} → Fits N (x ∷ y ∷ i) → Fits N i
behind2 h = behind (behind h)

pub behind3 : {N : List Node} {x y z : Lexeme} {i : List Lexeme} → Fits N (x ∷ y ∷ z ∷ i) → Fits N i
behind3 h = behind (behind2 h)

-- the first lexeme is a number
pub number_first : {N : List Node} {n : ℕ} {p : _} {i : List Lexeme} → Fits N (a_number n p ∷ i) → n ≤ greatest_number
unfolding AllSmall IsSmall
number_first h = h.small.0

pub below : (n : ℕ) → is_minimum n ≡ false → n ≤ greatest_number → n < greatest_number
below n e h = grind (arith, nat_tests)
