-- The nodes of E10.java. Printed by expected/print_nodes.py.
use Rattle.std.specs.Prelude.{[], ◌∷◌, Some, None, codes, true, false, ℕ}
use Rattle.scj_base.specs.declared.positions.Position.{Position}
use Rattle.scj_tree.specs.declared.nodes.Node.TheVariants.{Assign, Block, Call, Class, ClassType, Constructor, DefineScope, Element, ExpressionStatement, Field, Flags, LongType, Method, New, NewArray, Number, Parameter, Parameters, Return, ScopeName, SimpleName, SuperCall, SuperType, Supers, VoidType}
use Rattle.scj_tree.specs.Forest.{Forest}

abbrev at : ℕ → ℕ → ℕ → Position
at file line col = record { file = file; line = line; col = col }

abbrev pub e10_array : Forest
e10_array =
    record {
      nodes =
          SuperType (at 0 1 22) (codes "Safelet") None
          ∷ Supers (at 0 1 11) None (0 ∷ [])
          ∷ ClassType (at 0 2 10) (codes "MissionSequencer") None false
          ∷ New (at 0 2 51) (at 0 2 55) (codes "Seq") []
          ∷ Return (at 0 2 44) (Some 3)
          ∷ Block (at 0 2 42) (4 ∷ [])
          ∷ Method (at 0 2 27) (codes "getSequencer") None 2 None (Some 5)
          ∷ LongType (at 0 3 10)
          ∷ Number (at 0 3 45) 400 false
          ∷ Return (at 0 3 38) (Some 8)
          ∷ Block (at 0 3 36) (9 ∷ [])
          ∷ Method (at 0 3 15) (codes "immortalMemorySize") None 7 None (Some 10)
          ∷ VoidType (at 0 4 10)
          ∷ Block (at 0 4 39) []
          ∷ Method (at 0 4 15) (codes "initializeApplication") None 12 None (Some 13)
          ∷ Class (at 0 1 7) (codes "App") None (Some 1) (6 ∷ 11 ∷ 14 ∷ [])
          ∷ SuperType (at 0 6 19) (codes "MissionSequencer") None
          ∷ Supers (at 0 6 11) (Some 16) []
          ∷ Number (at 0 7 40) 5 false
          ∷ New (at 0 7 17) (at 0 7 21) (codes "PriorityParameters") (18 ∷ [])
          ∷ Number (at 0 7 66) 0 false
          ∷ New (at 0 7 44) (at 0 7 48) (codes "StorageParameters") (20 ∷ [])
          ∷ SuperCall (at 0 7 11) (19 ∷ 21 ∷ [])
          ∷ Block (at 0 7 9) []
          ∷ Constructor (at 0 7 3) (codes "Seq") None None (Some 22) 23
          ∷ ClassType (at 0 8 10) (codes "Mission") None false
          ∷ New (at 0 8 44) (at 0 8 48) (codes "Main") []
          ∷ Return (at 0 8 37) (Some 26)
          ∷ Block (at 0 8 35) (27 ∷ [])
          ∷ Method (at 0 8 18) (codes "getNextMission") None 25 None (Some 28)
          ∷ Class (at 0 6 7) (codes "Seq") None (Some 17) (24 ∷ 29 ∷ [])
          ∷ ScopeName (at 0 10 19) (codes "M")
          ∷ ScopeName (at 0 10 31) (codes "IMMORTAL")
          ∷ DefineScope (at 0 10 1) 31 32 false
          ∷ Flags (at 0 10 1) (Some 33) None None false false false
          ∷ SuperType (at 0 10 62) (codes "Mission") None
          ∷ Supers (at 0 10 54) (Some 35) []
          ∷ LongType (at 0 11 10)
          ∷ Number (at 0 11 44) 200 false
          ∷ Return (at 0 11 37) (Some 38)
          ∷ Block (at 0 11 35) (39 ∷ [])
          ∷ Method (at 0 11 15) (codes "missionMemorySize") None 37 None (Some 40)
          ∷ VoidType (at 0 12 10)
          ∷ ClassType (at 0 12 40) (codes "T") None false
          ∷ Number (at 0 12 42) 1 false
          ∷ NewArray (at 0 12 36) 43 44
          ∷ New (at 0 12 30) (at 0 12 34) (codes "H") (45 ∷ [])
          ∷ Call (at 0 12 46) (codes "register") (Some 46) []
          ∷ ExpressionStatement (at 0 12 46) 47
          ∷ Block (at 0 12 28) (48 ∷ [])
          ∷ Method (at 0 12 15) (codes "initialize") None 42 None (Some 49)
          ∷ Class (at 0 10 49) (codes "Main") (Some 34) (Some 36) (41 ∷ 50 ∷ [])
          ∷ ScopeName (at 0 14 8) (codes "M")
          ∷ ScopeName (at 0 14 31) (codes "P")
          ∷ ScopeName (at 0 14 43) (codes "M")
          ∷ DefineScope (at 0 14 13) 53 54 false
          ∷ Flags (at 0 14 1) (Some 55) (Some 52) None false false false
          ∷ SuperType (at 0 14 64) (codes "PeriodicEventHandler") None
          ∷ Supers (at 0 14 56) (Some 57) []
          ∷ ClassType (at 0 15 3) (codes "T") None true
          ∷ Field (at 0 15 7) (codes "all") None 59 None None
          ∷ ClassType (at 0 16 5) (codes "T") None true
          ∷ Parameter (at 0 16 9) (codes "a") None 61
          ∷ Parameters (at 0 16 4) (62 ∷ [])
          ∷ Number (at 0 17 34) 5 false
          ∷ New (at 0 17 11) (at 0 17 15) (codes "PriorityParameters") (64 ∷ [])
          ∷ Number (at 0 17 78) 0 false
          ∷ Number (at 0 17 81) 0 false
          ∷ New (at 0 17 61) (at 0 17 65) (codes "RelativeTime") (66 ∷ 67 ∷ [])
          ∷ Number (at 0 17 102) 1 false
          ∷ Number (at 0 17 105) 0 false
          ∷ New (at 0 17 85) (at 0 17 89) (codes "RelativeTime") (69 ∷ 70 ∷ [])
          ∷ New (at 0 17 38) (at 0 17 42) (codes "PeriodicParameters") (68 ∷ 71 ∷ [])
          ∷ Number (at 0 18 31) 100 false
          ∷ New (at 0 18 9) (at 0 18 13) (codes "StorageParameters") (73 ∷ [])
          ∷ SuperCall (at 0 17 5) (65 ∷ 72 ∷ 74 ∷ [])
          ∷ SimpleName (at 0 19 5) (codes "all")
          ∷ SimpleName (at 0 19 11) (codes "a")
          ∷ Assign (at 0 19 9) 76 77
          ∷ Block (at 0 16 12) (78 ∷ [])
          ∷ Constructor (at 0 16 3) (codes "H") None (Some 63) (Some 75) 79
          ∷ VoidType (at 0 21 10)
          ∷ SimpleName (at 0 21 36) (codes "all")
          ∷ Number (at 0 21 40) 0 false
          ∷ Element (at 0 21 39) 82 83
          ∷ New (at 0 21 45) (at 0 21 49) (codes "T") []
          ∷ Assign (at 0 21 43) 84 85
          ∷ Block (at 0 21 34) (86 ∷ [])
          ∷ Method (at 0 21 15) (codes "handleAsyncEvent") None 81 None (Some 87)
          ∷ Class (at 0 14 54) (codes "H") (Some 56) (Some 58) (60 ∷ 80 ∷ 88 ∷ [])
          ∷ ScopeName (at 0 23 8) (codes "P")
          ∷ Flags (at 0 23 1) None (Some 90) None false false false
          ∷ Class (at 0 23 19) (codes "T") (Some 91) None []
          ∷ [];
      files = ((15 ∷ 30 ∷ 51 ∷ 89 ∷ 92 ∷ []) ∷ []);
    }
