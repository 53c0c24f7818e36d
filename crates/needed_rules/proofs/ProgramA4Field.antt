-- The nodes of A4.java. Printed by expected/print_nodes.py.
use Rattle.std.specs.Prelude.{[], ◌∷◌, Some, None, codes, false, ℕ}
use Rattle.scj_base.specs.declared.positions.Position.{Position}
use Rattle.scj_tree.specs.declared.nodes.Node.TheVariants.{Assign, Block, Call, Class, ClassType, Constructor, DefineScope, ExpressionStatement, Field, FieldAccess, Flags, LongType, Method, New, Number, Parameter, Parameters, Return, ScopeName, SimpleName, SuperCall, SuperType, Supers, VoidType}
use Rattle.scj_tree.specs.Forest.{Forest}

abbrev at : ℕ → ℕ → ℕ → Position
at file line col = record { file = file; line = line; col = col }

abbrev pub a4_field : Forest
a4_field =
    record {
      nodes =
          SuperType (at 0 1 22) (codes "Safelet") None
          ∷ Supers (at 0 1 11) None (0 ∷ [])
          ∷ ClassType (at 0 2 10) (codes "MissionSequencer") None false
          ∷ New (at 0 2 51) (at 0 2 55) (codes "Seq") []
          ∷ Return (at 0 2 44) (Some 3)
          ∷ Block (at 0 2 42) (4 ∷ [])
          ∷ Method (at 0 2 27) (codes "getSequencer") None 2 None (Some 5)
          ∷ LongType (at 0 3 10)
          ∷ Number (at 0 3 45) 400 false
          ∷ Return (at 0 3 38) (Some 8)
          ∷ Block (at 0 3 36) (9 ∷ [])
          ∷ Method (at 0 3 15) (codes "immortalMemorySize") None 7 None (Some 10)
          ∷ VoidType (at 0 4 10)
          ∷ Block (at 0 4 39) []
          ∷ Method (at 0 4 15) (codes "initializeApplication") None 12 None (Some 13)
          ∷ Class (at 0 1 7) (codes "App") None (Some 1) (6 ∷ 11 ∷ 14 ∷ [])
          ∷ SuperType (at 0 6 19) (codes "MissionSequencer") None
          ∷ Supers (at 0 6 11) (Some 16) []
          ∷ Number (at 0 7 40) 5 false
          ∷ New (at 0 7 17) (at 0 7 21) (codes "PriorityParameters") (18 ∷ [])
          ∷ Number (at 0 7 66) 0 false
          ∷ New (at 0 7 44) (at 0 7 48) (codes "StorageParameters") (20 ∷ [])
          ∷ SuperCall (at 0 7 11) (19 ∷ 21 ∷ [])
          ∷ Block (at 0 7 9) []
          ∷ Constructor (at 0 7 3) (codes "Seq") None None (Some 22) 23
          ∷ ClassType (at 0 8 10) (codes "Mission") None false
          ∷ New (at 0 8 44) (at 0 8 48) (codes "Main") []
          ∷ Return (at 0 8 37) (Some 26)
          ∷ Block (at 0 8 35) (27 ∷ [])
          ∷ Method (at 0 8 18) (codes "getNextMission") None 25 None (Some 28)
          ∷ Class (at 0 6 7) (codes "Seq") None (Some 17) (24 ∷ 29 ∷ [])
          ∷ ScopeName (at 0 10 19) (codes "M")
          ∷ ScopeName (at 0 10 31) (codes "IMMORTAL")
          ∷ DefineScope (at 0 10 1) 31 32 false
          ∷ Flags (at 0 10 1) (Some 33) None None false false false
          ∷ SuperType (at 0 10 62) (codes "Mission") None
          ∷ Supers (at 0 10 54) (Some 35) []
          ∷ LongType (at 0 11 10)
          ∷ Number (at 0 11 44) 200 false
          ∷ Return (at 0 11 37) (Some 38)
          ∷ Block (at 0 11 35) (39 ∷ [])
          ∷ Method (at 0 11 15) (codes "missionMemorySize") None 37 None (Some 40)
          ∷ VoidType (at 0 12 10)
          ∷ New (at 0 12 36) (at 0 12 40) (codes "Pump") []
          ∷ New (at 0 12 30) (at 0 12 34) (codes "H") (43 ∷ [])
          ∷ Call (at 0 12 48) (codes "register") (Some 44) []
          ∷ ExpressionStatement (at 0 12 48) 45
          ∷ Block (at 0 12 28) (46 ∷ [])
          ∷ Method (at 0 12 15) (codes "initialize") None 42 None (Some 47)
          ∷ Class (at 0 10 49) (codes "Main") (Some 34) (Some 36) (41 ∷ 48 ∷ [])
          ∷ ClassType (at 0 14 14) (codes "T") None false
          ∷ Field (at 0 14 16) (codes "last") None 50 None None
          ∷ Class (at 0 14 7) (codes "Pump") None None (51 ∷ [])
          ∷ ScopeName (at 0 15 8) (codes "M")
          ∷ ScopeName (at 0 15 31) (codes "P")
          ∷ ScopeName (at 0 15 43) (codes "M")
          ∷ DefineScope (at 0 15 13) 54 55 false
          ∷ Flags (at 0 15 1) (Some 56) (Some 53) None false false false
          ∷ SuperType (at 0 15 64) (codes "PeriodicEventHandler") None
          ∷ Supers (at 0 15 56) (Some 58) []
          ∷ ClassType (at 0 16 3) (codes "Pump") None false
          ∷ Field (at 0 16 8) (codes "p") None 60 None None
          ∷ ClassType (at 0 17 5) (codes "Pump") None false
          ∷ Parameter (at 0 17 10) (codes "a") None 62
          ∷ Parameters (at 0 17 4) (63 ∷ [])
          ∷ Number (at 0 18 34) 5 false
          ∷ New (at 0 18 11) (at 0 18 15) (codes "PriorityParameters") (65 ∷ [])
          ∷ Number (at 0 18 78) 0 false
          ∷ Number (at 0 18 81) 0 false
          ∷ New (at 0 18 61) (at 0 18 65) (codes "RelativeTime") (67 ∷ 68 ∷ [])
          ∷ Number (at 0 18 102) 1 false
          ∷ Number (at 0 18 105) 0 false
          ∷ New (at 0 18 85) (at 0 18 89) (codes "RelativeTime") (70 ∷ 71 ∷ [])
          ∷ New (at 0 18 38) (at 0 18 42) (codes "PeriodicParameters") (69 ∷ 72 ∷ [])
          ∷ Number (at 0 19 31) 100 false
          ∷ New (at 0 19 9) (at 0 19 13) (codes "StorageParameters") (74 ∷ [])
          ∷ SuperCall (at 0 18 5) (66 ∷ 73 ∷ 75 ∷ [])
          ∷ SimpleName (at 0 20 5) (codes "p")
          ∷ SimpleName (at 0 20 9) (codes "a")
          ∷ Assign (at 0 20 7) 77 78
          ∷ Block (at 0 17 13) (79 ∷ [])
          ∷ Constructor (at 0 17 3) (codes "H") None (Some 64) (Some 76) 80
          ∷ VoidType (at 0 22 10)
          ∷ SimpleName (at 0 22 36) (codes "p")
          ∷ FieldAccess (at 0 22 38) (codes "last") 83
          ∷ New (at 0 22 45) (at 0 22 49) (codes "T") []
          ∷ Assign (at 0 22 43) 84 85
          ∷ Block (at 0 22 34) (86 ∷ [])
          ∷ Method (at 0 22 15) (codes "handleAsyncEvent") None 82 None (Some 87)
          ∷ Class (at 0 15 54) (codes "H") (Some 57) (Some 59) (61 ∷ 81 ∷ 88 ∷ [])
          ∷ ScopeName (at 0 24 8) (codes "P")
          ∷ Flags (at 0 24 1) None (Some 90) None false false false
          ∷ Class (at 0 24 19) (codes "T") (Some 91) None []
          ∷ [];
      files = ((15 ∷ 30 ∷ 49 ∷ 52 ∷ 89 ∷ 92 ∷ []) ∷ []);
    }
