-- The nodes of A.java. Printed by expected/print_nodes.py.
use Rattle.std.specs.Prelude.{[], ◌∷◌, Some, None, codes, true, false, ℕ}
use Rattle.scj_base.specs.declared.positions.Position.{Position}
use Rattle.scj_tree.specs.declared.nodes.Node.TheVariants.{Binary, Block, Call, Class, ClassType, ExpressionStatement, IntType, LocalWithValue, LongType, Method, Null, Number, Return, SimpleName, SuperType, Supers, Text, Unary, VoidType}
use Rattle.scj_tree.specs.Forest.{Forest}

abbrev at : ℕ → ℕ → ℕ → Position
at file line col = record { file = file; line = line; col = col }

abbrev pub a : Forest
a =
    record {
      nodes =
          SuperType (at 0 1 22) (codes "Safelet") None
          ∷ Supers (at 0 1 11) None (0 ∷ [])
          ∷ ClassType (at 0 2 10) (codes "MissionSequencer") None false
          ∷ Null (at 0 2 51)
          ∷ Return (at 0 2 44) (Some 3)
          ∷ Block (at 0 2 42) (4 ∷ [])
          ∷ Method (at 0 2 27) (codes "getSequencer") None 2 None (Some 5)
          ∷ LongType (at 0 3 10)
          ∷ Number (at 0 3 45) 64 false
          ∷ Return (at 0 3 38) (Some 8)
          ∷ Block (at 0 3 36) (9 ∷ [])
          ∷ Method (at 0 3 15) (codes "immortalMemorySize") None 7 None (Some 10)
          ∷ VoidType (at 0 4 10)
          ∷ IntType (at 0 5 5) false
          ∷ Number (at 0 5 13) 2147483648 true
          ∷ LocalWithValue (at 0 5 11) (at 0 5 9) (codes "m") None 13 14
          ∷ SimpleName (at 0 5 26) (codes "Trace")
          ∷ Text (at 0 5 38) (codes "a")
          ∷ SimpleName (at 0 5 43) (codes "m")
          ∷ Number (at 0 5 48) 1 false
          ∷ Unary (at 0 5 47) 18 19
          ∷ Binary (at 0 5 45) 20 18 20
          ∷ Call (at 0 5 32) (codes "print") (Some 16) (17 ∷ 21 ∷ [])
          ∷ ExpressionStatement (at 0 5 32) 22
          ∷ SimpleName (at 0 6 5) (codes "Trace")
          ∷ Text (at 0 6 17) (codes "b")
          ∷ SimpleName (at 0 6 22) (codes "m")
          ∷ Number (at 0 6 27) 1 false
          ∷ Unary (at 0 6 26) 18 27
          ∷ Binary (at 0 6 24) 21 26 28
          ∷ Call (at 0 6 11) (codes "print") (Some 24) (25 ∷ 29 ∷ [])
          ∷ ExpressionStatement (at 0 6 11) 30
          ∷ SimpleName (at 0 6 31) (codes "Trace")
          ∷ Text (at 0 6 43) (codes "c")
          ∷ Number (at 0 6 48) 1 false
          ∷ Number (at 0 6 53) 33 false
          ∷ Binary (at 0 6 50) 29 34 35
          ∷ Call (at 0 6 37) (codes "print") (Some 32) (33 ∷ 36 ∷ [])
          ∷ ExpressionStatement (at 0 6 37) 37
          ∷ Block (at 0 4 39) (15 ∷ 23 ∷ 31 ∷ 38 ∷ [])
          ∷ Method (at 0 4 15) (codes "initializeApplication") None 12 None (Some 39)
          ∷ Class (at 0 1 7) (codes "App") None (Some 1) (6 ∷ 11 ∷ 40 ∷ [])
          ∷ [];
      files = ((41 ∷ []) ∷ []);
    }
