-- The nodes of W.java. Printed by expected/print_nodes.py.
use Rattle.std.specs.Prelude.{[], ◌∷◌, Some, None, codes, false, ℕ}
use Rattle.scj_base.specs.declared.positions.Position.{Position}
use Rattle.scj_tree.specs.declared.nodes.Node.TheVariants.{Assign, Binary, Block, Call, Class, ClassType, ExpressionStatement, IntType, LocalWithValue, LongType, Method, Null, Number, Return, SimpleName, SuperType, Supers, Text, VoidType, While}
use Rattle.scj_tree.specs.Forest.{Forest}

abbrev at : ℕ → ℕ → ℕ → Position
at file line col = record { file = file; line = line; col = col }

abbrev pub w : Forest
w =
    record {
      nodes =
          SuperType (at 0 1 22) (codes "Safelet") None
          ∷ Supers (at 0 1 11) None (0 ∷ [])
          ∷ ClassType (at 0 2 10) (codes "MissionSequencer") None false
          ∷ Null (at 0 2 51)
          ∷ Return (at 0 2 44) (Some 3)
          ∷ Block (at 0 2 42) (4 ∷ [])
          ∷ Method (at 0 2 27) (codes "getSequencer") None 2 None (Some 5)
          ∷ LongType (at 0 3 10)
          ∷ Number (at 0 3 45) 64 false
          ∷ Return (at 0 3 38) (Some 8)
          ∷ Block (at 0 3 36) (9 ∷ [])
          ∷ Method (at 0 3 15) (codes "immortalMemorySize") None 7 None (Some 10)
          ∷ VoidType (at 0 4 10)
          ∷ IntType (at 0 5 5) false
          ∷ Number (at 0 5 13) 0 false
          ∷ LocalWithValue (at 0 5 11) (at 0 5 9) (codes "i") None 13 14
          ∷ SimpleName (at 0 5 23) (codes "i")
          ∷ Number (at 0 5 27) 2 false
          ∷ Binary (at 0 5 25) 13 16 17
          ∷ SimpleName (at 0 5 32) (codes "Trace")
          ∷ Text (at 0 5 44) (codes "i")
          ∷ SimpleName (at 0 5 49) (codes "i")
          ∷ Call (at 0 5 38) (codes "print") (Some 19) (20 ∷ 21 ∷ [])
          ∷ ExpressionStatement (at 0 5 38) 22
          ∷ SimpleName (at 0 5 53) (codes "i")
          ∷ SimpleName (at 0 5 57) (codes "i")
          ∷ Number (at 0 5 61) 1 false
          ∷ Binary (at 0 5 59) 17 25 26
          ∷ Assign (at 0 5 55) 24 27
          ∷ Block (at 0 5 30) (23 ∷ 28 ∷ [])
          ∷ While (at 0 5 16) 18 29
          ∷ Block (at 0 4 39) (15 ∷ 30 ∷ [])
          ∷ Method (at 0 4 15) (codes "initializeApplication") None 12 None (Some 31)
          ∷ Class (at 0 1 7) (codes "App") None (Some 1) (6 ∷ 11 ∷ 32 ∷ [])
          ∷ [];
      files = ((33 ∷ []) ∷ []);
    }
