-- The nodes of E5.java. Printed by expected/print_nodes.py.
use Rattle.std.specs.Prelude.{[], ◌∷◌, Some, None, codes, true, false, ℕ}
use Rattle.scj_base.specs.declared.positions.Position.{Position}
use Rattle.scj_tree.specs.declared.nodes.Node.TheVariants.{Assign, Block, Call, Class, ClassType, Constructor, DefineScope, ExpressionStatement, Field, FieldAccess, Flags, If, LongType, Method, New, Number, Parameter, Parameters, Return, ScopeName, SimpleName, SuperCall, SuperType, Supers, VoidType}
use Rattle.scj_tree.specs.Forest.{Forest}

abbrev at : ℕ → ℕ → ℕ → Position
at file line col = record { file = file; line = line; col = col }

abbrev pub e5_undone : Forest
e5_undone =
    record {
      nodes =
          SuperType (at 0 1 22) (codes "Safelet") None
          ∷ Supers (at 0 1 11) None (0 ∷ [])
          ∷ ClassType (at 0 2 10) (codes "MissionSequencer") None false
          ∷ New (at 0 2 51) (at 0 2 55) (codes "Seq") []
          ∷ Return (at 0 2 44) (Some 3)
          ∷ Block (at 0 2 42) (4 ∷ [])
          ∷ Method (at 0 2 27) (codes "getSequencer") None 2 None (Some 5)
          ∷ LongType (at 0 3 10)
          ∷ Number (at 0 3 45) 400 false
          ∷ Return (at 0 3 38) (Some 8)
          ∷ Block (at 0 3 36) (9 ∷ [])
          ∷ Method (at 0 3 15) (codes "immortalMemorySize") None 7 None (Some 10)
          ∷ VoidType (at 0 4 10)
          ∷ Block (at 0 4 39) []
          ∷ Method (at 0 4 15) (codes "initializeApplication") None 12 None (Some 13)
          ∷ Class (at 0 1 7) (codes "App") None (Some 1) (6 ∷ 11 ∷ 14 ∷ [])
          ∷ SuperType (at 0 6 19) (codes "MissionSequencer") None
          ∷ Supers (at 0 6 11) (Some 16) []
          ∷ Number (at 0 7 40) 5 false
          ∷ New (at 0 7 17) (at 0 7 21) (codes "PriorityParameters") (18 ∷ [])
          ∷ Number (at 0 7 66) 0 false
          ∷ New (at 0 7 44) (at 0 7 48) (codes "StorageParameters") (20 ∷ [])
          ∷ SuperCall (at 0 7 11) (19 ∷ 21 ∷ [])
          ∷ Block (at 0 7 9) []
          ∷ Constructor (at 0 7 3) (codes "Seq") None None (Some 22) 23
          ∷ ClassType (at 0 8 10) (codes "Mission") None false
          ∷ New (at 0 8 44) (at 0 8 48) (codes "Main") []
          ∷ Return (at 0 8 37) (Some 26)
          ∷ Block (at 0 8 35) (27 ∷ [])
          ∷ Method (at 0 8 18) (codes "getNextMission") None 25 None (Some 28)
          ∷ Class (at 0 6 7) (codes "Seq") None (Some 17) (24 ∷ 29 ∷ [])
          ∷ ScopeName (at 0 10 19) (codes "M")
          ∷ ScopeName (at 0 10 31) (codes "IMMORTAL")
          ∷ DefineScope (at 0 10 1) 31 32 false
          ∷ Flags (at 0 10 1) (Some 33) None None false false false
          ∷ SuperType (at 0 10 62) (codes "Mission") None
          ∷ Supers (at 0 10 54) (Some 35) []
          ∷ LongType (at 0 11 10)
          ∷ Number (at 0 11 44) 200 false
          ∷ Return (at 0 11 37) (Some 38)
          ∷ Block (at 0 11 35) (39 ∷ [])
          ∷ Method (at 0 11 15) (codes "missionMemorySize") None 37 None (Some 40)
          ∷ VoidType (at 0 12 10)
          ∷ New (at 0 12 36) (at 0 12 40) (codes "Node") []
          ∷ New (at 0 12 30) (at 0 12 34) (codes "H") (43 ∷ [])
          ∷ Call (at 0 12 48) (codes "register") (Some 44) []
          ∷ ExpressionStatement (at 0 12 48) 45
          ∷ Block (at 0 12 28) (46 ∷ [])
          ∷ Method (at 0 12 15) (codes "initialize") None 42 None (Some 47)
          ∷ Class (at 0 10 49) (codes "Main") (Some 34) (Some 36) (41 ∷ 48 ∷ [])
          ∷ ClassType (at 0 15 3) (codes "Node") None false
          ∷ Field (at 0 15 8) (codes "next") None 50 None None
          ∷ Flags (at 0 16 3) None None None true false false
          ∷ VoidType (at 0 16 10)
          ∷ ScopeName (at 0 16 26) (codes "UNKNOWN")
          ∷ Flags (at 0 16 19) None (Some 54) None false false false
          ∷ ClassType (at 0 16 35) (codes "Node") None false
          ∷ Parameter (at 0 16 40) (codes "a") (Some 55) 56
          ∷ ScopeName (at 0 16 50) (codes "UNKNOWN")
          ∷ Flags (at 0 16 43) None (Some 58) None false false false
          ∷ ClassType (at 0 16 59) (codes "Node") None false
          ∷ Parameter (at 0 16 64) (codes "b") (Some 59) 60
          ∷ ScopeName (at 0 16 74) (codes "UNKNOWN")
          ∷ Flags (at 0 16 67) None (Some 62) None false false false
          ∷ ClassType (at 0 16 83) (codes "Node") None false
          ∷ Parameter (at 0 16 88) (codes "c") (Some 63) 64
          ∷ Parameters (at 0 16 18) (57 ∷ 61 ∷ 65 ∷ [])
          ∷ SimpleName (at 0 17 9) (codes "ManagedMemory")
          ∷ SimpleName (at 0 17 35) (codes "a")
          ∷ SimpleName (at 0 17 38) (codes "b")
          ∷ Call (at 0 17 23) (codes "allocInSame") (Some 67) (68 ∷ 69 ∷ [])
          ∷ SimpleName (at 0 17 44) (codes "b")
          ∷ SimpleName (at 0 17 48) (codes "c")
          ∷ Assign (at 0 17 46) 71 72
          ∷ SimpleName (at 0 17 51) (codes "a")
          ∷ FieldAccess (at 0 17 53) (codes "next") 74
          ∷ SimpleName (at 0 17 60) (codes "b")
          ∷ Assign (at 0 17 58) 75 76
          ∷ Block (at 0 17 42) (73 ∷ 77 ∷ [])
          ∷ If (at 0 17 5) 70 78 None
          ∷ Block (at 0 16 91) (79 ∷ [])
          ∷ Method (at 0 16 15) (codes "tie") (Some 52) 53 (Some 66) (Some 80)
          ∷ Class (at 0 14 7) (codes "Node") None None (51 ∷ 81 ∷ [])
          ∷ ScopeName (at 0 20 8) (codes "M")
          ∷ ScopeName (at 0 20 31) (codes "P")
          ∷ ScopeName (at 0 20 43) (codes "M")
          ∷ DefineScope (at 0 20 13) 84 85 false
          ∷ Flags (at 0 20 1) (Some 86) (Some 83) None false false false
          ∷ SuperType (at 0 20 64) (codes "PeriodicEventHandler") None
          ∷ Supers (at 0 20 56) (Some 88) []
          ∷ ClassType (at 0 21 3) (codes "Node") None false
          ∷ Field (at 0 21 8) (codes "list") None 90 None None
          ∷ ClassType (at 0 22 5) (codes "Node") None false
          ∷ Parameter (at 0 22 10) (codes "a") None 92
          ∷ Parameters (at 0 22 4) (93 ∷ [])
          ∷ Number (at 0 23 34) 5 false
          ∷ New (at 0 23 11) (at 0 23 15) (codes "PriorityParameters") (95 ∷ [])
          ∷ Number (at 0 23 78) 0 false
          ∷ Number (at 0 23 81) 0 false
          ∷ New (at 0 23 61) (at 0 23 65) (codes "RelativeTime") (97 ∷ 98 ∷ [])
          ∷ Number (at 0 23 102) 1 false
          ∷ Number (at 0 23 105) 0 false
          ∷ New (at 0 23 85) (at 0 23 89) (codes "RelativeTime") (100 ∷ 101 ∷ [])
          ∷ New (at 0 23 38) (at 0 23 42) (codes "PeriodicParameters") (99 ∷ 102 ∷ [])
          ∷ Number (at 0 24 31) 100 false
          ∷ New (at 0 24 9) (at 0 24 13) (codes "StorageParameters") (104 ∷ [])
          ∷ SuperCall (at 0 23 5) (96 ∷ 103 ∷ 105 ∷ [])
          ∷ SimpleName (at 0 25 5) (codes "list")
          ∷ SimpleName (at 0 25 12) (codes "a")
          ∷ Assign (at 0 25 10) 107 108
          ∷ Block (at 0 22 13) (109 ∷ [])
          ∷ Constructor (at 0 22 3) (codes "H") None (Some 94) (Some 106) 110
          ∷ VoidType (at 0 27 10)
          ∷ SimpleName (at 0 27 36) (codes "Node")
          ∷ SimpleName (at 0 27 45) (codes "list")
          ∷ SimpleName (at 0 27 51) (codes "list")
          ∷ New (at 0 27 57) (at 0 27 61) (codes "Node") []
          ∷ Call (at 0 27 41) (codes "tie") (Some 113) (114 ∷ 115 ∷ 116 ∷ [])
          ∷ ExpressionStatement (at 0 27 41) 117
          ∷ Block (at 0 27 34) (118 ∷ [])
          ∷ Method (at 0 27 15) (codes "handleAsyncEvent") None 112 None (Some 119)
          ∷ Class (at 0 20 54) (codes "H") (Some 87) (Some 89) (91 ∷ 111 ∷ 120 ∷ [])
          ∷ [];
      files = ((15 ∷ 30 ∷ 49 ∷ 82 ∷ 121 ∷ []) ∷ []);
    }
