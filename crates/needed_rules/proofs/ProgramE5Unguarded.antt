-- The nodes of E5.java. Printed by expected/print_nodes.py.
use Rattle.std.specs.Prelude.{[], ◌∷◌, Some, None, codes, true, false, ℕ}
use Rattle.scj_base.specs.declared.positions.Position.{Position}
use Rattle.scj_tree.specs.declared.nodes.Node.TheVariants.{Assign, Block, Call, Class, ClassType, Constructor, DefineScope, ExpressionStatement, Field, FieldAccess, Flags, LongType, Method, New, Number, Parameter, Parameters, Return, ScopeName, SimpleName, SuperCall, SuperType, Supers, VoidType}
use Rattle.scj_tree.specs.Forest.{Forest}

abbrev at : ℕ → ℕ → ℕ → Position
at file line col = record { file = file; line = line; col = col }

abbrev pub e5_unguarded : Forest
e5_unguarded =
    record {
      nodes =
          SuperType (at 0 1 22) (codes "Safelet") None
          ∷ Supers (at 0 1 11) None (0 ∷ [])
          ∷ ClassType (at 0 2 10) (codes "MissionSequencer") None false
          ∷ New (at 0 2 51) (at 0 2 55) (codes "Seq") []
          ∷ Return (at 0 2 44) (Some 3)
          ∷ Block (at 0 2 42) (4 ∷ [])
          ∷ Method (at 0 2 27) (codes "getSequencer") None 2 None (Some 5)
          ∷ LongType (at 0 3 10)
          ∷ Number (at 0 3 45) 400 false
          ∷ Return (at 0 3 38) (Some 8)
          ∷ Block (at 0 3 36) (9 ∷ [])
          ∷ Method (at 0 3 15) (codes "immortalMemorySize") None 7 None (Some 10)
          ∷ VoidType (at 0 4 10)
          ∷ Block (at 0 4 39) []
          ∷ Method (at 0 4 15) (codes "initializeApplication") None 12 None (Some 13)
          ∷ Class (at 0 1 7) (codes "App") None (Some 1) (6 ∷ 11 ∷ 14 ∷ [])
          ∷ SuperType (at 0 6 19) (codes "MissionSequencer") None
          ∷ Supers (at 0 6 11) (Some 16) []
          ∷ Number (at 0 7 40) 5 false
          ∷ New (at 0 7 17) (at 0 7 21) (codes "PriorityParameters") (18 ∷ [])
          ∷ Number (at 0 7 66) 0 false
          ∷ New (at 0 7 44) (at 0 7 48) (codes "StorageParameters") (20 ∷ [])
          ∷ SuperCall (at 0 7 11) (19 ∷ 21 ∷ [])
          ∷ Block (at 0 7 9) []
          ∷ Constructor (at 0 7 3) (codes "Seq") None None (Some 22) 23
          ∷ ClassType (at 0 8 10) (codes "Mission") None false
          ∷ New (at 0 8 44) (at 0 8 48) (codes "Main") []
          ∷ Return (at 0 8 37) (Some 26)
          ∷ Block (at 0 8 35) (27 ∷ [])
          ∷ Method (at 0 8 18) (codes "getNextMission") None 25 None (Some 28)
          ∷ Class (at 0 6 7) (codes "Seq") None (Some 17) (24 ∷ 29 ∷ [])
          ∷ ScopeName (at 0 10 19) (codes "M")
          ∷ ScopeName (at 0 10 31) (codes "IMMORTAL")
          ∷ DefineScope (at 0 10 1) 31 32 false
          ∷ Flags (at 0 10 1) (Some 33) None None false false false
          ∷ SuperType (at 0 10 62) (codes "Mission") None
          ∷ Supers (at 0 10 54) (Some 35) []
          ∷ LongType (at 0 11 10)
          ∷ Number (at 0 11 44) 200 false
          ∷ Return (at 0 11 37) (Some 38)
          ∷ Block (at 0 11 35) (39 ∷ [])
          ∷ Method (at 0 11 15) (codes "missionMemorySize") None 37 None (Some 40)
          ∷ VoidType (at 0 12 10)
          ∷ New (at 0 12 36) (at 0 12 40) (codes "Node") []
          ∷ New (at 0 12 30) (at 0 12 34) (codes "H") (43 ∷ [])
          ∷ Call (at 0 12 48) (codes "register") (Some 44) []
          ∷ ExpressionStatement (at 0 12 48) 45
          ∷ Block (at 0 12 28) (46 ∷ [])
          ∷ Method (at 0 12 15) (codes "initialize") None 42 None (Some 47)
          ∷ Class (at 0 10 49) (codes "Main") (Some 34) (Some 36) (41 ∷ 48 ∷ [])
          ∷ ClassType (at 0 15 3) (codes "Node") None false
          ∷ Field (at 0 15 8) (codes "next") None 50 None None
          ∷ Flags (at 0 16 3) None None None true false false
          ∷ VoidType (at 0 16 10)
          ∷ ScopeName (at 0 16 26) (codes "UNKNOWN")
          ∷ Flags (at 0 16 19) None (Some 54) None false false false
          ∷ ClassType (at 0 16 35) (codes "Node") None false
          ∷ Parameter (at 0 16 40) (codes "a") (Some 55) 56
          ∷ ScopeName (at 0 16 50) (codes "UNKNOWN")
          ∷ Flags (at 0 16 43) None (Some 58) None false false false
          ∷ ClassType (at 0 16 59) (codes "Node") None false
          ∷ Parameter (at 0 16 64) (codes "b") (Some 59) 60
          ∷ Parameters (at 0 16 18) (57 ∷ 61 ∷ [])
          ∷ SimpleName (at 0 16 69) (codes "a")
          ∷ FieldAccess (at 0 16 71) (codes "next") 63
          ∷ SimpleName (at 0 16 78) (codes "b")
          ∷ Assign (at 0 16 76) 64 65
          ∷ Block (at 0 16 67) (66 ∷ [])
          ∷ Method (at 0 16 15) (codes "tie") (Some 52) 53 (Some 62) (Some 67)
          ∷ Class (at 0 14 7) (codes "Node") None None (51 ∷ 68 ∷ [])
          ∷ ScopeName (at 0 18 8) (codes "M")
          ∷ ScopeName (at 0 18 31) (codes "P")
          ∷ ScopeName (at 0 18 43) (codes "M")
          ∷ DefineScope (at 0 18 13) 71 72 false
          ∷ Flags (at 0 18 1) (Some 73) (Some 70) None false false false
          ∷ SuperType (at 0 18 64) (codes "PeriodicEventHandler") None
          ∷ Supers (at 0 18 56) (Some 75) []
          ∷ ClassType (at 0 19 3) (codes "Node") None false
          ∷ Field (at 0 19 8) (codes "list") None 77 None None
          ∷ ClassType (at 0 20 5) (codes "Node") None false
          ∷ Parameter (at 0 20 10) (codes "a") None 79
          ∷ Parameters (at 0 20 4) (80 ∷ [])
          ∷ Number (at 0 21 34) 5 false
          ∷ New (at 0 21 11) (at 0 21 15) (codes "PriorityParameters") (82 ∷ [])
          ∷ Number (at 0 21 78) 0 false
          ∷ Number (at 0 21 81) 0 false
          ∷ New (at 0 21 61) (at 0 21 65) (codes "RelativeTime") (84 ∷ 85 ∷ [])
          ∷ Number (at 0 21 102) 1 false
          ∷ Number (at 0 21 105) 0 false
          ∷ New (at 0 21 85) (at 0 21 89) (codes "RelativeTime") (87 ∷ 88 ∷ [])
          ∷ New (at 0 21 38) (at 0 21 42) (codes "PeriodicParameters") (86 ∷ 89 ∷ [])
          ∷ Number (at 0 22 31) 100 false
          ∷ New (at 0 22 9) (at 0 22 13) (codes "StorageParameters") (91 ∷ [])
          ∷ SuperCall (at 0 21 5) (83 ∷ 90 ∷ 92 ∷ [])
          ∷ SimpleName (at 0 23 5) (codes "list")
          ∷ SimpleName (at 0 23 12) (codes "a")
          ∷ Assign (at 0 23 10) 94 95
          ∷ Block (at 0 20 13) (96 ∷ [])
          ∷ Constructor (at 0 20 3) (codes "H") None (Some 81) (Some 93) 97
          ∷ VoidType (at 0 25 10)
          ∷ SimpleName (at 0 25 36) (codes "Node")
          ∷ SimpleName (at 0 25 45) (codes "list")
          ∷ New (at 0 25 51) (at 0 25 55) (codes "Node") []
          ∷ Call (at 0 25 41) (codes "tie") (Some 100) (101 ∷ 102 ∷ [])
          ∷ ExpressionStatement (at 0 25 41) 103
          ∷ Block (at 0 25 34) (104 ∷ [])
          ∷ Method (at 0 25 15) (codes "handleAsyncEvent") None 99 None (Some 105)
          ∷ Class (at 0 18 54) (codes "H") (Some 74) (Some 76) (78 ∷ 98 ∷ 106 ∷ [])
          ∷ [];
      files = ((15 ∷ 30 ∷ 49 ∷ 69 ∷ 107 ∷ []) ∷ []);
    }
