-- The nodes of B.java, I.java. Printed by expected/print_nodes.py.
use Rattle.std.specs.Prelude.{[], ◌∷◌, Some, None, codes, false, ℕ}
use Rattle.scj_base.specs.declared.positions.Position.{Position}
use Rattle.scj_tree.specs.declared.nodes.Node.TheVariants.{Assign, Binary, Block, Call, Class, ClassType, Constructor, DefineScope, ExpressionStatement, Field, FieldAccess, Flags, If, IntType, LocalWithValue, LongType, Method, New, Null, Number, Parameter, Parameters, Return, ScopeName, SimpleName, SuperCall, SuperType, Supers, Text, VoidType}
use Rattle.scj_tree.specs.Forest.{Forest}

abbrev at : ℕ → ℕ → ℕ → Position
at file line col = record { file = file; line = line; col = col }

abbrev pub two_handlers : Forest
two_handlers =
    record {
      nodes =
          SuperType (at 0 1 22) (codes "Safelet") None
          ∷ Supers (at 0 1 11) None (0 ∷ [])
          ∷ ClassType (at 0 2 10) (codes "MissionSequencer") None false
          ∷ New (at 0 2 51) (at 0 2 55) (codes "Seq") []
          ∷ Return (at 0 2 44) (Some 3)
          ∷ Block (at 0 2 42) (4 ∷ [])
          ∷ Method (at 0 2 27) (codes "getSequencer") None 2 None (Some 5)
          ∷ LongType (at 0 3 10)
          ∷ Number (at 0 3 45) 400 false
          ∷ Return (at 0 3 38) (Some 8)
          ∷ Block (at 0 3 36) (9 ∷ [])
          ∷ Method (at 0 3 15) (codes "immortalMemorySize") None 7 None (Some 10)
          ∷ VoidType (at 0 4 10)
          ∷ Block (at 0 4 39) []
          ∷ Method (at 0 4 15) (codes "initializeApplication") None 12 None (Some 13)
          ∷ Class (at 0 1 7) (codes "App") None (Some 1) (6 ∷ 11 ∷ 14 ∷ [])
          ∷ SuperType (at 0 6 19) (codes "MissionSequencer") None
          ∷ Supers (at 0 6 11) (Some 16) []
          ∷ IntType (at 0 7 3) false
          ∷ Field (at 0 7 7) (codes "n") None 18 None None
          ∷ Number (at 0 8 40) 5 false
          ∷ New (at 0 8 17) (at 0 8 21) (codes "PriorityParameters") (20 ∷ [])
          ∷ Number (at 0 8 66) 0 false
          ∷ New (at 0 8 44) (at 0 8 48) (codes "StorageParameters") (22 ∷ [])
          ∷ SuperCall (at 0 8 11) (21 ∷ 23 ∷ [])
          ∷ Block (at 0 8 9) []
          ∷ Constructor (at 0 8 3) (codes "Seq") None None (Some 24) 25
          ∷ ClassType (at 0 9 10) (codes "Mission") None false
          ∷ SimpleName (at 0 10 9) (codes "n")
          ∷ Number (at 0 10 13) 0 false
          ∷ Binary (at 0 10 11) 14 28 29
          ∷ Null (at 0 10 23)
          ∷ Return (at 0 10 16) (Some 31)
          ∷ If (at 0 10 5) 30 32 None
          ∷ SimpleName (at 0 11 5) (codes "n")
          ∷ SimpleName (at 0 11 9) (codes "n")
          ∷ Number (at 0 11 13) 1 false
          ∷ Binary (at 0 11 11) 17 35 36
          ∷ Assign (at 0 11 7) 34 37
          ∷ New (at 0 12 12) (at 0 12 16) (codes "Main") []
          ∷ Return (at 0 12 5) (Some 39)
          ∷ Block (at 0 9 35) (33 ∷ 38 ∷ 40 ∷ [])
          ∷ Method (at 0 9 18) (codes "getNextMission") None 27 None (Some 41)
          ∷ Class (at 0 6 7) (codes "Seq") None (Some 17) (19 ∷ 26 ∷ 42 ∷ [])
          ∷ ScopeName (at 1 1 19) (codes "M")
          ∷ ScopeName (at 1 1 31) (codes "IMMORTAL")
          ∷ DefineScope (at 1 1 1) 44 45 false
          ∷ Flags (at 1 1 1) (Some 46) None None false false false
          ∷ SuperType (at 1 1 62) (codes "Mission") None
          ∷ Supers (at 1 1 54) (Some 48) []
          ∷ LongType (at 1 2 10)
          ∷ Number (at 1 2 44) 500 false
          ∷ Return (at 1 2 37) (Some 51)
          ∷ Block (at 1 2 35) (52 ∷ [])
          ∷ Method (at 1 2 15) (codes "missionMemorySize") None 50 None (Some 53)
          ∷ VoidType (at 1 3 10)
          ∷ Number (at 1 3 36) 5 false
          ∷ Number (at 1 3 39) 0 false
          ∷ New (at 1 3 30) (at 1 3 34) (codes "W") (56 ∷ 57 ∷ [])
          ∷ Call (at 1 3 42) (codes "register") (Some 58) []
          ∷ ExpressionStatement (at 1 3 42) 59
          ∷ Number (at 1 3 60) 9 false
          ∷ Number (at 1 3 63) 15000 false
          ∷ New (at 1 3 54) (at 1 3 58) (codes "W") (61 ∷ 62 ∷ [])
          ∷ Call (at 1 3 70) (codes "register") (Some 63) []
          ∷ ExpressionStatement (at 1 3 70) 64
          ∷ Block (at 1 3 28) (60 ∷ 65 ∷ [])
          ∷ Method (at 1 3 15) (codes "initialize") None 55 None (Some 66)
          ∷ Class (at 1 1 49) (codes "Main") (Some 47) (Some 49) (54 ∷ 67 ∷ [])
          ∷ ScopeName (at 1 5 8) (codes "M")
          ∷ ScopeName (at 1 5 31) (codes "P")
          ∷ ScopeName (at 1 5 43) (codes "M")
          ∷ DefineScope (at 1 5 13) 70 71 false
          ∷ Flags (at 1 5 1) (Some 72) (Some 69) None false false false
          ∷ SuperType (at 1 5 64) (codes "PeriodicEventHandler") None
          ∷ Supers (at 1 5 56) (Some 74) []
          ∷ IntType (at 1 6 3) false
          ∷ Field (at 1 6 7) (codes "p") None 76 None None
          ∷ IntType (at 1 7 5) false
          ∷ Parameter (at 1 7 9) (codes "a") None 78
          ∷ IntType (at 1 7 12) false
          ∷ Parameter (at 1 7 16) (codes "s") None 80
          ∷ Parameters (at 1 7 4) (79 ∷ 81 ∷ [])
          ∷ SimpleName (at 1 7 50) (codes "a")
          ∷ New (at 1 7 27) (at 1 7 31) (codes "PriorityParameters") (83 ∷ [])
          ∷ Number (at 1 7 94) 0 false
          ∷ SimpleName (at 1 7 97) (codes "s")
          ∷ New (at 1 7 77) (at 1 7 81) (codes "RelativeTime") (85 ∷ 86 ∷ [])
          ∷ Number (at 1 7 118) 1 false
          ∷ Number (at 1 7 121) 0 false
          ∷ New (at 1 7 101) (at 1 7 105) (codes "RelativeTime") (88 ∷ 89 ∷ [])
          ∷ New (at 1 7 54) (at 1 7 58) (codes "PeriodicParameters") (87 ∷ 90 ∷ [])
          ∷ Number (at 1 7 148) 24 false
          ∷ New (at 1 7 126) (at 1 7 130) (codes "StorageParameters") (92 ∷ [])
          ∷ SuperCall (at 1 7 21) (84 ∷ 91 ∷ 93 ∷ [])
          ∷ SimpleName (at 1 7 154) (codes "p")
          ∷ SimpleName (at 1 7 158) (codes "a")
          ∷ Assign (at 1 7 156) 95 96
          ∷ Block (at 1 7 19) (97 ∷ [])
          ∷ Constructor (at 1 7 3) (codes "W") None (Some 82) (Some 94) 98
          ∷ VoidType (at 1 8 10)
          ∷ SimpleName (at 1 8 36) (codes "ManagedMemory")
          ∷ Number (at 1 8 69) 24 false
          ∷ SimpleName (at 1 8 80) (codes "p")
          ∷ New (at 1 8 73) (at 1 8 77) (codes "In") (103 ∷ [])
          ∷ Call (at 1 8 50) (codes "enterPrivateMemory") (Some 101) (102 ∷ 104 ∷ [])
          ∷ ExpressionStatement (at 1 8 50) 105
          ∷ Block (at 1 8 34) (106 ∷ [])
          ∷ Method (at 1 8 15) (codes "handleAsyncEvent") None 100 None (Some 107)
          ∷ Class (at 1 5 54) (codes "W") (Some 73) (Some 75) (77 ∷ 99 ∷ 108 ∷ [])
          ∷ ScopeName (at 1 10 19) (codes "Q")
          ∷ ScopeName (at 1 10 31) (codes "P")
          ∷ DefineScope (at 1 10 1) 110 111 false
          ∷ Flags (at 1 10 1) (Some 112) None None false false false
          ∷ SuperType (at 1 10 56) (codes "Runnable") None
          ∷ Supers (at 1 10 45) None (114 ∷ [])
          ∷ IntType (at 1 10 67) false
          ∷ Field (at 1 10 71) (codes "q") None 116 None None
          ∷ IntType (at 1 10 77) false
          ∷ Parameter (at 1 10 81) (codes "a") None 118
          ∷ Parameters (at 1 10 76) (119 ∷ [])
          ∷ SimpleName (at 1 10 86) (codes "q")
          ∷ SimpleName (at 1 10 90) (codes "a")
          ∷ Assign (at 1 10 88) 121 122
          ∷ Block (at 1 10 84) (123 ∷ [])
          ∷ Constructor (at 1 10 74) (codes "In") None (Some 120) None 124
          ∷ VoidType (at 1 11 10)
          ∷ ClassType (at 1 11 23) (codes "Box") None false
          ∷ SimpleName (at 1 11 39) (codes "q")
          ∷ New (at 1 11 31) (at 1 11 35) (codes "Box") (128 ∷ [])
          ∷ LocalWithValue (at 1 11 29) (at 1 11 27) (codes "b") None 127 129
          ∷ SimpleName (at 1 11 43) (codes "Trace")
          ∷ Text (at 1 11 55) (codes "q")
          ∷ SimpleName (at 1 11 60) (codes "b")
          ∷ FieldAccess (at 1 11 62) (codes "v") 133
          ∷ Call (at 1 11 49) (codes "print") (Some 131) (132 ∷ 134 ∷ [])
          ∷ ExpressionStatement (at 1 11 49) 135
          ∷ Block (at 1 11 21) (130 ∷ 136 ∷ [])
          ∷ Method (at 1 11 15) (codes "run") None 126 None (Some 137)
          ∷ Class (at 1 10 42) (codes "In") (Some 113) (Some 115) (117 ∷ 125 ∷ 138 ∷ [])
          ∷ IntType (at 1 12 13) false
          ∷ Field (at 1 12 17) (codes "v") None 140 None None
          ∷ IntType (at 1 12 24) false
          ∷ Parameter (at 1 12 28) (codes "a") None 142
          ∷ Parameters (at 1 12 23) (143 ∷ [])
          ∷ SimpleName (at 1 12 33) (codes "v")
          ∷ SimpleName (at 1 12 37) (codes "a")
          ∷ Assign (at 1 12 35) 145 146
          ∷ Block (at 1 12 31) (147 ∷ [])
          ∷ Constructor (at 1 12 20) (codes "Box") None (Some 144) None 148
          ∷ Class (at 1 12 7) (codes "Box") None None (141 ∷ 149 ∷ [])
          ∷ [];
      files = ((15 ∷ 43 ∷ []) ∷ (68 ∷ 109 ∷ 139 ∷ 150 ∷ []) ∷ []);
    }
