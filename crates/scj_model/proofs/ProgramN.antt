-- The nodes of N.java. Printed by expected/print_nodes.py.
use Rattle.std.specs.Prelude.{[], ◌∷◌, Some, None, codes, true, false, ℕ}
use Rattle.scj_base.specs.declared.positions.Position.{Position}
use Rattle.scj_tree.specs.declared.nodes.Node.TheVariants.{Assign, Binary, Block, Call, Class, ClassType, Constructor, Element, ExpressionStatement, IntType, LocalWithValue, LongType, Method, New, NewArray, Null, Number, Return, SimpleName, SuperCall, SuperType, Supers, Text, VoidType}
use Rattle.scj_tree.specs.Forest.{Forest}

abbrev at : ℕ → ℕ → ℕ → Position
at file line col = record { file = file; line = line; col = col }

abbrev pub n : Forest
n =
    record {
      nodes =
          SuperType (at 0 1 22) (codes "Safelet") None
          ∷ Supers (at 0 1 11) None (0 ∷ [])
          ∷ ClassType (at 0 2 10) (codes "MissionSequencer") None false
          ∷ New (at 0 2 51) (at 0 2 55) (codes "Seq") []
          ∷ Return (at 0 2 44) (Some 3)
          ∷ Block (at 0 2 42) (4 ∷ [])
          ∷ Method (at 0 2 27) (codes "getSequencer") None 2 None (Some 5)
          ∷ LongType (at 0 3 10)
          ∷ Number (at 0 3 45) 400 false
          ∷ Return (at 0 3 38) (Some 8)
          ∷ Block (at 0 3 36) (9 ∷ [])
          ∷ Method (at 0 3 15) (codes "immortalMemorySize") None 7 None (Some 10)
          ∷ VoidType (at 0 4 10)
          ∷ IntType (at 0 4 41) true
          ∷ IntType (at 0 4 55) false
          ∷ Number (at 0 4 59) 2 false
          ∷ NewArray (at 0 4 51) 14 15
          ∷ LocalWithValue (at 0 4 49) (at 0 4 47) (codes "a") None 13 16
          ∷ SimpleName (at 0 4 63) (codes "a")
          ∷ Number (at 0 4 65) 1 false
          ∷ Element (at 0 4 64) 18 19
          ∷ Number (at 0 4 70) 7 false
          ∷ Assign (at 0 4 68) 20 21
          ∷ SimpleName (at 0 4 73) (codes "Trace")
          ∷ Text (at 0 4 85) (codes "s")
          ∷ SimpleName (at 0 4 90) (codes "a")
          ∷ Number (at 0 4 92) 0 false
          ∷ Element (at 0 4 91) 25 26
          ∷ SimpleName (at 0 4 97) (codes "a")
          ∷ Number (at 0 4 99) 1 false
          ∷ Element (at 0 4 98) 28 29
          ∷ Binary (at 0 4 95) 17 27 30
          ∷ Call (at 0 4 79) (codes "print") (Some 23) (24 ∷ 31 ∷ [])
          ∷ ExpressionStatement (at 0 4 79) 32
          ∷ Block (at 0 4 39) (17 ∷ 22 ∷ 33 ∷ [])
          ∷ Method (at 0 4 15) (codes "initializeApplication") None 12 None (Some 34)
          ∷ Class (at 0 1 7) (codes "App") None (Some 1) (6 ∷ 11 ∷ 35 ∷ [])
          ∷ SuperType (at 0 6 19) (codes "MissionSequencer") None
          ∷ Supers (at 0 6 11) (Some 37) []
          ∷ Number (at 0 7 40) 5 false
          ∷ New (at 0 7 17) (at 0 7 21) (codes "PriorityParameters") (39 ∷ [])
          ∷ Number (at 0 7 66) 0 false
          ∷ New (at 0 7 44) (at 0 7 48) (codes "StorageParameters") (41 ∷ [])
          ∷ SuperCall (at 0 7 11) (40 ∷ 42 ∷ [])
          ∷ Block (at 0 7 9) []
          ∷ Constructor (at 0 7 3) (codes "Seq") None None (Some 43) 44
          ∷ ClassType (at 0 8 10) (codes "Mission") None false
          ∷ Null (at 0 8 44)
          ∷ Return (at 0 8 37) (Some 47)
          ∷ Block (at 0 8 35) (48 ∷ [])
          ∷ Method (at 0 8 18) (codes "getNextMission") None 46 None (Some 49)
          ∷ Class (at 0 6 7) (codes "Seq") None (Some 38) (45 ∷ 50 ∷ [])
          ∷ [];
      files = ((36 ∷ 51 ∷ []) ∷ []);
    }
