-- The nodes of B.java, D.java. Printed by expected/print_nodes.py.
use Rattle.std.specs.Prelude.{[], ◌∷◌, Some, None, codes, true, false, ℕ}
use Rattle.scj_base.specs.declared.positions.Position.{Position}
use Rattle.scj_tree.specs.declared.nodes.Node.TheVariants.{Assign, Binary, Block, Call, Class, ClassType, Constructor, DefineScope, ExpressionStatement, Field, Flags, If, IntType, LocalWithValue, LongType, Method, New, Null, Number, Parameter, Parameters, Return, ScopeName, SimpleName, SuperCall, SuperType, Supers, Text, VoidType}
use Rattle.scj_tree.specs.Forest.{Forest}

abbrev at : ℕ → ℕ → ℕ → Position
at file line col = record { file = file; line = line; col = col }

abbrev pub ceiling : Forest
ceiling =
    record {
      nodes =
          SuperType (at 0 1 22) (codes "Safelet") None
          ∷ Supers (at 0 1 11) None (0 ∷ [])
          ∷ ClassType (at 0 2 10) (codes "MissionSequencer") None false
          ∷ New (at 0 2 51) (at 0 2 55) (codes "Seq") []
          ∷ Return (at 0 2 44) (Some 3)
          ∷ Block (at 0 2 42) (4 ∷ [])
          ∷ Method (at 0 2 27) (codes "getSequencer") None 2 None (Some 5)
          ∷ LongType (at 0 3 10)
          ∷ Number (at 0 3 45) 400 false
          ∷ Return (at 0 3 38) (Some 8)
          ∷ Block (at 0 3 36) (9 ∷ [])
          ∷ Method (at 0 3 15) (codes "immortalMemorySize") None 7 None (Some 10)
          ∷ VoidType (at 0 4 10)
          ∷ Block (at 0 4 39) []
          ∷ Method (at 0 4 15) (codes "initializeApplication") None 12 None (Some 13)
          ∷ Class (at 0 1 7) (codes "App") None (Some 1) (6 ∷ 11 ∷ 14 ∷ [])
          ∷ SuperType (at 0 6 19) (codes "MissionSequencer") None
          ∷ Supers (at 0 6 11) (Some 16) []
          ∷ IntType (at 0 7 3) false
          ∷ Field (at 0 7 7) (codes "n") None 18 None None
          ∷ Number (at 0 8 40) 5 false
          ∷ New (at 0 8 17) (at 0 8 21) (codes "PriorityParameters") (20 ∷ [])
          ∷ Number (at 0 8 66) 0 false
          ∷ New (at 0 8 44) (at 0 8 48) (codes "StorageParameters") (22 ∷ [])
          ∷ SuperCall (at 0 8 11) (21 ∷ 23 ∷ [])
          ∷ Block (at 0 8 9) []
          ∷ Constructor (at 0 8 3) (codes "Seq") None None (Some 24) 25
          ∷ ClassType (at 0 9 10) (codes "Mission") None false
          ∷ SimpleName (at 0 10 9) (codes "n")
          ∷ Number (at 0 10 13) 0 false
          ∷ Binary (at 0 10 11) 14 28 29
          ∷ Null (at 0 10 23)
          ∷ Return (at 0 10 16) (Some 31)
          ∷ If (at 0 10 5) 30 32 None
          ∷ SimpleName (at 0 11 5) (codes "n")
          ∷ SimpleName (at 0 11 9) (codes "n")
          ∷ Number (at 0 11 13) 1 false
          ∷ Binary (at 0 11 11) 17 35 36
          ∷ Assign (at 0 11 7) 34 37
          ∷ New (at 0 12 12) (at 0 12 16) (codes "Main") []
          ∷ Return (at 0 12 5) (Some 39)
          ∷ Block (at 0 9 35) (33 ∷ 38 ∷ 40 ∷ [])
          ∷ Method (at 0 9 18) (codes "getNextMission") None 27 None (Some 41)
          ∷ Class (at 0 6 7) (codes "Seq") None (Some 17) (19 ∷ 26 ∷ 42 ∷ [])
          ∷ ScopeName (at 1 1 19) (codes "M")
          ∷ ScopeName (at 1 1 31) (codes "IMMORTAL")
          ∷ DefineScope (at 1 1 1) 44 45 false
          ∷ Flags (at 1 1 1) (Some 46) None None false false false
          ∷ SuperType (at 1 1 62) (codes "Mission") None
          ∷ Supers (at 1 1 54) (Some 48) []
          ∷ LongType (at 1 2 10)
          ∷ Number (at 1 2 44) 300 false
          ∷ Return (at 1 2 37) (Some 51)
          ∷ Block (at 1 2 35) (52 ∷ [])
          ∷ Method (at 1 2 15) (codes "missionMemorySize") None 50 None (Some 53)
          ∷ VoidType (at 1 3 10)
          ∷ ClassType (at 1 3 30) (codes "Gate") None false
          ∷ New (at 1 3 39) (at 1 3 43) (codes "Gate") []
          ∷ LocalWithValue (at 1 3 37) (at 1 3 35) (codes "g") None 56 57
          ∷ SimpleName (at 1 3 51) (codes "Services")
          ∷ SimpleName (at 1 3 71) (codes "g")
          ∷ Number (at 1 3 74) 9 false
          ∷ Call (at 1 3 60) (codes "setCeiling") (Some 59) (60 ∷ 61 ∷ [])
          ∷ ExpressionStatement (at 1 3 60) 62
          ∷ Number (at 1 3 84) 5 false
          ∷ Number (at 1 3 87) 0 false
          ∷ SimpleName (at 1 3 90) (codes "g")
          ∷ New (at 1 3 78) (at 1 3 82) (codes "W") (64 ∷ 65 ∷ 66 ∷ [])
          ∷ Call (at 1 3 93) (codes "register") (Some 67) []
          ∷ ExpressionStatement (at 1 3 93) 68
          ∷ Number (at 1 3 111) 9 false
          ∷ Number (at 1 3 114) 8000 false
          ∷ SimpleName (at 1 3 120) (codes "g")
          ∷ New (at 1 3 105) (at 1 3 109) (codes "W") (70 ∷ 71 ∷ 72 ∷ [])
          ∷ Call (at 1 3 123) (codes "register") (Some 73) []
          ∷ ExpressionStatement (at 1 3 123) 74
          ∷ Block (at 1 3 28) (58 ∷ 63 ∷ 69 ∷ 75 ∷ [])
          ∷ Method (at 1 3 15) (codes "initialize") None 55 None (Some 76)
          ∷ Class (at 1 1 49) (codes "Main") (Some 47) (Some 49) (54 ∷ 77 ∷ [])
          ∷ ScopeName (at 1 5 8) (codes "M")
          ∷ Flags (at 1 5 1) None (Some 79) None false false false
          ∷ IntType (at 1 5 26) false
          ∷ Field (at 1 5 30) (codes "n") None 81 None None
          ∷ ScopeName (at 1 5 41) (codes "CALLER")
          ∷ Flags (at 1 5 33) None None (Some 83) false false true
          ∷ VoidType (at 1 5 62)
          ∷ IntType (at 1 5 71) false
          ∷ Parameter (at 1 5 75) (codes "a") None 86
          ∷ Parameters (at 1 5 70) (87 ∷ [])
          ∷ SimpleName (at 1 5 80) (codes "n")
          ∷ SimpleName (at 1 5 84) (codes "n")
          ∷ SimpleName (at 1 5 88) (codes "a")
          ∷ Binary (at 1 5 86) 17 90 91
          ∷ Assign (at 1 5 82) 89 92
          ∷ SimpleName (at 1 5 91) (codes "Trace")
          ∷ Text (at 1 5 103) (codes "n")
          ∷ SimpleName (at 1 5 108) (codes "n")
          ∷ Call (at 1 5 97) (codes "print") (Some 94) (95 ∷ 96 ∷ [])
          ∷ ExpressionStatement (at 1 5 97) 97
          ∷ Block (at 1 5 78) (93 ∷ 98 ∷ [])
          ∷ Method (at 1 5 67) (codes "hit") (Some 84) 85 (Some 88) (Some 99)
          ∷ Class (at 1 5 19) (codes "Gate") (Some 80) None (82 ∷ 100 ∷ [])
          ∷ ScopeName (at 1 6 8) (codes "M")
          ∷ ScopeName (at 1 6 31) (codes "P")
          ∷ ScopeName (at 1 6 43) (codes "M")
          ∷ DefineScope (at 1 6 13) 103 104 false
          ∷ Flags (at 1 6 1) (Some 105) (Some 102) None false false false
          ∷ SuperType (at 1 6 64) (codes "PeriodicEventHandler") None
          ∷ Supers (at 1 6 56) (Some 107) []
          ∷ IntType (at 1 7 3) false
          ∷ Field (at 1 7 7) (codes "p") None 109 None None
          ∷ ClassType (at 1 7 10) (codes "Gate") None false
          ∷ Field (at 1 7 15) (codes "g") None 111 None None
          ∷ IntType (at 1 8 5) false
          ∷ Parameter (at 1 8 9) (codes "a") None 113
          ∷ IntType (at 1 8 12) false
          ∷ Parameter (at 1 8 16) (codes "s") None 115
          ∷ ClassType (at 1 8 19) (codes "Gate") None false
          ∷ Parameter (at 1 8 24) (codes "x") None 117
          ∷ Parameters (at 1 8 4) (114 ∷ 116 ∷ 118 ∷ [])
          ∷ SimpleName (at 1 8 58) (codes "a")
          ∷ New (at 1 8 35) (at 1 8 39) (codes "PriorityParameters") (120 ∷ [])
          ∷ Number (at 1 8 102) 0 false
          ∷ SimpleName (at 1 8 105) (codes "s")
          ∷ New (at 1 8 85) (at 1 8 89) (codes "RelativeTime") (122 ∷ 123 ∷ [])
          ∷ Number (at 1 8 126) 1 false
          ∷ Number (at 1 8 129) 0 false
          ∷ New (at 1 8 109) (at 1 8 113) (codes "RelativeTime") (125 ∷ 126 ∷ [])
          ∷ New (at 1 8 62) (at 1 8 66) (codes "PeriodicParameters") (124 ∷ 127 ∷ [])
          ∷ Number (at 1 8 156) 0 false
          ∷ New (at 1 8 134) (at 1 8 138) (codes "StorageParameters") (129 ∷ [])
          ∷ SuperCall (at 1 8 29) (121 ∷ 128 ∷ 130 ∷ [])
          ∷ SimpleName (at 1 8 161) (codes "p")
          ∷ SimpleName (at 1 8 165) (codes "a")
          ∷ Assign (at 1 8 163) 132 133
          ∷ SimpleName (at 1 8 168) (codes "g")
          ∷ SimpleName (at 1 8 172) (codes "x")
          ∷ Assign (at 1 8 170) 135 136
          ∷ Block (at 1 8 27) (134 ∷ 137 ∷ [])
          ∷ Constructor (at 1 8 3) (codes "W") None (Some 119) (Some 131) 138
          ∷ VoidType (at 1 9 10)
          ∷ SimpleName (at 1 9 36) (codes "g")
          ∷ SimpleName (at 1 9 42) (codes "p")
          ∷ Call (at 1 9 38) (codes "hit") (Some 141) (142 ∷ [])
          ∷ ExpressionStatement (at 1 9 38) 143
          ∷ Block (at 1 9 34) (144 ∷ [])
          ∷ Method (at 1 9 15) (codes "handleAsyncEvent") None 140 None (Some 145)
          ∷ Class (at 1 6 54) (codes "W") (Some 106) (Some 108) (110 ∷ 112 ∷ 139 ∷ 146 ∷ [])
          ∷ [];
      files = ((15 ∷ 43 ∷ []) ∷ (78 ∷ 101 ∷ 147 ∷ []) ∷ []);
    }
