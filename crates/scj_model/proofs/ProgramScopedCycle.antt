-- The nodes of B.java, J.java. Printed by expected/print_nodes.py.
use Rattle.std.specs.Prelude.{[], ◌∷◌, Some, None, codes, false, ℕ}
use Rattle.scj_base.specs.declared.positions.Position.{Position}
use Rattle.scj_tree.specs.declared.nodes.Node.TheVariants.{Assign, Binary, Block, Call, Class, ClassType, Constructor, DefineScope, ExpressionStatement, Field, FieldAccess, Flags, If, IntType, LongType, Method, New, Null, Number, Return, ScopeName, SimpleName, SuperCall, SuperType, Supers, Text, This, VoidType}
use Rattle.scj_tree.specs.Forest.{Forest}

abbrev at : ℕ → ℕ → ℕ → Position
at file line col = record { file = file; line = line; col = col }

abbrev pub scoped_cycle : Forest
scoped_cycle =
    record {
      nodes =
          SuperType (at 0 1 22) (codes "Safelet") None
          ∷ Supers (at 0 1 11) None (0 ∷ [])
          ∷ ClassType (at 0 2 10) (codes "MissionSequencer") None false
          ∷ New (at 0 2 51) (at 0 2 55) (codes "Seq") []
          ∷ Return (at 0 2 44) (Some 3)
          ∷ Block (at 0 2 42) (4 ∷ [])
          ∷ Method (at 0 2 27) (codes "getSequencer") None 2 None (Some 5)
          ∷ LongType (at 0 3 10)
          ∷ Number (at 0 3 45) 400 false
          ∷ Return (at 0 3 38) (Some 8)
          ∷ Block (at 0 3 36) (9 ∷ [])
          ∷ Method (at 0 3 15) (codes "immortalMemorySize") None 7 None (Some 10)
          ∷ VoidType (at 0 4 10)
          ∷ Block (at 0 4 39) []
          ∷ Method (at 0 4 15) (codes "initializeApplication") None 12 None (Some 13)
          ∷ Class (at 0 1 7) (codes "App") None (Some 1) (6 ∷ 11 ∷ 14 ∷ [])
          ∷ SuperType (at 0 6 19) (codes "MissionSequencer") None
          ∷ Supers (at 0 6 11) (Some 16) []
          ∷ IntType (at 0 7 3) false
          ∷ Field (at 0 7 7) (codes "n") None 18 None None
          ∷ Number (at 0 8 40) 5 false
          ∷ New (at 0 8 17) (at 0 8 21) (codes "PriorityParameters") (20 ∷ [])
          ∷ Number (at 0 8 66) 0 false
          ∷ New (at 0 8 44) (at 0 8 48) (codes "StorageParameters") (22 ∷ [])
          ∷ SuperCall (at 0 8 11) (21 ∷ 23 ∷ [])
          ∷ Block (at 0 8 9) []
          ∷ Constructor (at 0 8 3) (codes "Seq") None None (Some 24) 25
          ∷ ClassType (at 0 9 10) (codes "Mission") None false
          ∷ SimpleName (at 0 10 9) (codes "n")
          ∷ Number (at 0 10 13) 0 false
          ∷ Binary (at 0 10 11) 14 28 29
          ∷ Null (at 0 10 23)
          ∷ Return (at 0 10 16) (Some 31)
          ∷ If (at 0 10 5) 30 32 None
          ∷ SimpleName (at 0 11 5) (codes "n")
          ∷ SimpleName (at 0 11 9) (codes "n")
          ∷ Number (at 0 11 13) 1 false
          ∷ Binary (at 0 11 11) 17 35 36
          ∷ Assign (at 0 11 7) 34 37
          ∷ New (at 0 12 12) (at 0 12 16) (codes "Main") []
          ∷ Return (at 0 12 5) (Some 39)
          ∷ Block (at 0 9 35) (33 ∷ 38 ∷ 40 ∷ [])
          ∷ Method (at 0 9 18) (codes "getNextMission") None 27 None (Some 41)
          ∷ Class (at 0 6 7) (codes "Seq") None (Some 17) (19 ∷ 26 ∷ 42 ∷ [])
          ∷ ScopeName (at 1 1 19) (codes "M")
          ∷ ScopeName (at 1 1 31) (codes "IMMORTAL")
          ∷ DefineScope (at 1 1 1) 44 45 false
          ∷ Flags (at 1 1 1) (Some 46) None None false false false
          ∷ SuperType (at 1 1 62) (codes "Mission") None
          ∷ Supers (at 1 1 54) (Some 48) []
          ∷ LongType (at 1 2 10)
          ∷ Number (at 1 2 44) 200 false
          ∷ Return (at 1 2 37) (Some 51)
          ∷ Block (at 1 2 35) (52 ∷ [])
          ∷ Method (at 1 2 15) (codes "missionMemorySize") None 50 None (Some 53)
          ∷ VoidType (at 1 3 10)
          ∷ New (at 1 3 30) (at 1 3 34) (codes "H") []
          ∷ Call (at 1 3 38) (codes "register") (Some 56) []
          ∷ ExpressionStatement (at 1 3 38) 57
          ∷ Block (at 1 3 28) (58 ∷ [])
          ∷ Method (at 1 3 15) (codes "initialize") None 55 None (Some 59)
          ∷ Class (at 1 1 49) (codes "Main") (Some 47) (Some 49) (54 ∷ 60 ∷ [])
          ∷ ScopeName (at 1 5 8) (codes "M")
          ∷ Flags (at 1 5 1) None (Some 62) None false false false
          ∷ SuperType (at 1 5 32) (codes "Runnable") None
          ∷ Supers (at 1 5 21) None (64 ∷ [])
          ∷ ClassType (at 1 5 43) (codes "A") None false
          ∷ Field (at 1 5 45) (codes "a") None 66 None None
          ∷ VoidType (at 1 6 10)
          ∷ SimpleName (at 1 6 23) (codes "ManagedMemory")
          ∷ Number (at 1 6 56) 16 false
          ∷ SimpleName (at 1 6 60) (codes "a")
          ∷ Call (at 1 6 37) (codes "enterPrivateMemory") (Some 69) (70 ∷ 71 ∷ [])
          ∷ ExpressionStatement (at 1 6 37) 72
          ∷ Block (at 1 6 21) (73 ∷ [])
          ∷ Method (at 1 6 15) (codes "run") None 68 None (Some 74)
          ∷ Class (at 1 5 19) (codes "X") (Some 63) (Some 65) (67 ∷ 75 ∷ [])
          ∷ ScopeName (at 1 7 8) (codes "M")
          ∷ ScopeName (at 1 7 31) (codes "Q")
          ∷ ScopeName (at 1 7 43) (codes "M")
          ∷ DefineScope (at 1 7 13) 78 79 false
          ∷ Flags (at 1 7 1) (Some 80) (Some 77) None false false false
          ∷ SuperType (at 1 7 67) (codes "Runnable") None
          ∷ Supers (at 1 7 56) None (82 ∷ [])
          ∷ ClassType (at 1 7 78) (codes "X") None false
          ∷ Field (at 1 7 80) (codes "x") None 84 None None
          ∷ VoidType (at 1 8 10)
          ∷ SimpleName (at 1 8 23) (codes "Trace")
          ∷ Text (at 1 8 35) (codes "in")
          ∷ Number (at 1 8 41) 1 false
          ∷ Call (at 1 8 29) (codes "print") (Some 87) (88 ∷ 89 ∷ [])
          ∷ ExpressionStatement (at 1 8 29) 90
          ∷ SimpleName (at 1 8 45) (codes "ManagedMemory")
          ∷ This (at 1 8 75)
          ∷ SimpleName (at 1 8 81) (codes "x")
          ∷ Call (at 1 8 59) (codes "executeInAreaOf") (Some 92) (93 ∷ 94 ∷ [])
          ∷ ExpressionStatement (at 1 8 59) 95
          ∷ Block (at 1 8 21) (91 ∷ 96 ∷ [])
          ∷ Method (at 1 8 15) (codes "run") None 86 None (Some 97)
          ∷ Class (at 1 7 54) (codes "A") (Some 81) (Some 83) (85 ∷ 98 ∷ [])
          ∷ ScopeName (at 1 9 8) (codes "M")
          ∷ ScopeName (at 1 9 31) (codes "P")
          ∷ ScopeName (at 1 9 43) (codes "M")
          ∷ DefineScope (at 1 9 13) 101 102 false
          ∷ Flags (at 1 9 1) (Some 103) (Some 100) None false false false
          ∷ SuperType (at 1 9 64) (codes "AperiodicEventHandler") None
          ∷ Supers (at 1 9 56) (Some 105) []
          ∷ ClassType (at 1 9 88) (codes "X") None false
          ∷ Field (at 1 9 90) (codes "x") None 107 None None
          ∷ Number (at 1 10 38) 7 false
          ∷ New (at 1 10 15) (at 1 10 19) (codes "PriorityParameters") (109 ∷ [])
          ∷ New (at 1 10 42) (at 1 10 46) (codes "AperiodicParameters") []
          ∷ Number (at 1 10 91) 16 false
          ∷ New (at 1 10 69) (at 1 10 73) (codes "StorageParameters") (112 ∷ [])
          ∷ SuperCall (at 1 10 9) (110 ∷ 111 ∷ 113 ∷ [])
          ∷ SimpleName (at 1 10 97) (codes "x")
          ∷ New (at 1 10 101) (at 1 10 105) (codes "X") []
          ∷ Assign (at 1 10 99) 115 116
          ∷ SimpleName (at 1 10 110) (codes "x")
          ∷ FieldAccess (at 1 10 112) (codes "a") 118
          ∷ New (at 1 10 116) (at 1 10 120) (codes "A") []
          ∷ Assign (at 1 10 114) 119 120
          ∷ SimpleName (at 1 10 125) (codes "x")
          ∷ FieldAccess (at 1 10 127) (codes "a") 122
          ∷ FieldAccess (at 1 10 129) (codes "x") 123
          ∷ SimpleName (at 1 10 133) (codes "x")
          ∷ Assign (at 1 10 131) 124 125
          ∷ Block (at 1 10 7) (117 ∷ 121 ∷ 126 ∷ [])
          ∷ Constructor (at 1 10 3) (codes "H") None None (Some 114) 127
          ∷ VoidType (at 1 11 10)
          ∷ SimpleName (at 1 11 36) (codes "ManagedMemory")
          ∷ This (at 1 11 66)
          ∷ SimpleName (at 1 11 72) (codes "x")
          ∷ Call (at 1 11 50) (codes "executeInAreaOf") (Some 130) (131 ∷ 132 ∷ [])
          ∷ ExpressionStatement (at 1 11 50) 133
          ∷ Block (at 1 11 34) (134 ∷ [])
          ∷ Method (at 1 11 15) (codes "handleAsyncEvent") None 129 None (Some 135)
          ∷ Class (at 1 9 54) (codes "H") (Some 104) (Some 106) (108 ∷ 128 ∷ 136 ∷ [])
          ∷ [];
      files = ((15 ∷ 43 ∷ []) ∷ (61 ∷ 76 ∷ 99 ∷ 137 ∷ []) ∷ []);
    }
