-- The nodes of Z.java. Printed by expected/print_nodes.py.
use Rattle.std.specs.Prelude.{[], ◌∷◌, Some, None, codes, false, ℕ}
use Rattle.scj_base.specs.declared.positions.Position.{Position}
use Rattle.scj_tree.specs.declared.nodes.Node.TheVariants.{Binary, Block, Call, Class, ClassType, ExpressionStatement, LongType, Method, Null, Number, Return, SimpleName, SuperType, Supers, Text, VoidType}
use Rattle.scj_tree.specs.Forest.{Forest}

abbrev at : ℕ → ℕ → ℕ → Position
at file line col = record { file = file; line = line; col = col }

abbrev pub z_small : Forest
z_small =
    record {
      nodes =
          SuperType (at 0 1 22) (codes "Safelet") None
          ∷ Supers (at 0 1 11) None (0 ∷ [])
          ∷ ClassType (at 0 2 10) (codes "MissionSequencer") None false
          ∷ Null (at 0 2 51)
          ∷ Return (at 0 2 44) (Some 3)
          ∷ Block (at 0 2 42) (4 ∷ [])
          ∷ Method (at 0 2 27) (codes "getSequencer") None 2 None (Some 5)
          ∷ LongType (at 0 3 10)
          ∷ Number (at 0 3 45) 15 false
          ∷ Return (at 0 3 38) (Some 8)
          ∷ Block (at 0 3 36) (9 ∷ [])
          ∷ Method (at 0 3 15) (codes "immortalMemorySize") None 7 None (Some 10)
          ∷ VoidType (at 0 4 10)
          ∷ SimpleName (at 0 5 5) (codes "Trace")
          ∷ Text (at 0 5 17) (codes "z")
          ∷ Number (at 0 5 22) 1 false
          ∷ Number (at 0 5 26) 0 false
          ∷ Binary (at 0 5 24) 20 15 16
          ∷ Call (at 0 5 11) (codes "print") (Some 13) (14 ∷ 17 ∷ [])
          ∷ ExpressionStatement (at 0 5 11) 18
          ∷ Block (at 0 4 39) (19 ∷ [])
          ∷ Method (at 0 4 15) (codes "initializeApplication") None 12 None (Some 20)
          ∷ Class (at 0 1 7) (codes "App") None (Some 1) (6 ∷ 11 ∷ 21 ∷ [])
          ∷ [];
      files = ((22 ∷ []) ∷ []);
    }
