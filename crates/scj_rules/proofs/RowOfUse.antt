-- The definitions at a whole controller: a mission, a shared tank, an alarm, a sensor and a pump.
use Rattle.std.proofs.Common.{◌≡◌, ℕ, [], ◌∷◌, refl, Some, None, codes, true, false}
use Rattle.scj_base.specs.declared.findings.Found.{Found}
use Rattle.scj_base.specs.declared.findings.Rule.{Rule}
use Rattle.scj_base.specs.declared.positions.Position.{Position}
use Rattle.scj_tree.specs.declared.nodes.Node.TheVariants.{Assign, Binary, Block, Call, Class, ClassType, Constructor, DefineScope, ExpressionStatement, Field, FieldAccess, Flags, If, IntType, LocalWithValue, LongType, Method, New, Null, Number, Parameter, Parameters, Return, ScopeName, SimpleName, SuperCall, SuperType, Supers, Text, VoidType}
use Rattle.std.proofs.Common.{arith}
use Rattle.scj_tree.specs.Counts.{times}
use Rattle.scj_tree.specs.Forest.{Forest, IsForest, is_class, all_children, AllClasses}
use Rattle.scj_rules.proofs.ForestTests.{children_first, all_below, are_distinct, forest_passes}
use Rattle.scj_rules.specs.Contexts.{declarations_of}
use Rattle.scj_rules.specs.Phases.{class_phase, type_phase, scope_phase, use_phase, IsAccepted}
use Rattle.scj_rules.proofs.Computing.{computing}
use Rattle.scj_rules.proofs.AcceptedLemmas.{accepted}

abbrev at : ℕ → ℕ → ℕ → Position
at file line col = record { file = file; line = line; col = col }

abbrev found : Rule → Position → Found
found rule position = record { pos = position; rule = rule }

abbrev pub controller : Forest
controller =
    record {
      nodes =
          SuperType (at 0 1 22) (codes "Safelet") None
          ∷ Supers (at 0 1 11) None (0 ∷ [])
          ∷ ClassType (at 0 2 10) (codes "MissionSequencer") None false
          ∷ New (at 0 2 51) (at 0 2 55) (codes "Seq") []
          ∷ Return (at 0 2 44) (Some 3)
          ∷ Block (at 0 2 42) (4 ∷ [])
          ∷ Method (at 0 2 27) (codes "getSequencer") None 2 None (Some 5)
          ∷ LongType (at 0 3 10)
          ∷ Number (at 0 3 45) 400 false
          ∷ Return (at 0 3 38) (Some 8)
          ∷ Block (at 0 3 36) (9 ∷ [])
          ∷ Method (at 0 3 15) (codes "immortalMemorySize") None 7 None (Some 10)
          ∷ VoidType (at 0 4 10)
          ∷ Block (at 0 4 39) []
          ∷ Method (at 0 4 15) (codes "initializeApplication") None 12 None (Some 13)
          ∷ Class (at 0 1 7) (codes "App") None (Some 1) (6 ∷ 11 ∷ 14 ∷ [])
          ∷ SuperType (at 0 6 19) (codes "MissionSequencer") None
          ∷ Supers (at 0 6 11) (Some 16) []
          ∷ IntType (at 0 7 3) false
          ∷ Field (at 0 7 7) (codes "n") None 18 None None
          ∷ Number (at 0 8 40) 5 false
          ∷ New (at 0 8 17) (at 0 8 21) (codes "PriorityParameters") (20 ∷ [])
          ∷ Number (at 0 8 66) 0 false
          ∷ New (at 0 8 44) (at 0 8 48) (codes "StorageParameters") (22 ∷ [])
          ∷ SuperCall (at 0 8 11) (21 ∷ 23 ∷ [])
          ∷ Block (at 0 8 9) []
          ∷ Constructor (at 0 8 3) (codes "Seq") None None (Some 24) 25
          ∷ ClassType (at 0 9 10) (codes "Mission") None false
          ∷ SimpleName (at 0 10 9) (codes "n")
          ∷ Number (at 0 10 13) 0 false
          ∷ Binary (at 0 10 11) 14 28 29
          ∷ Null (at 0 10 23)
          ∷ Return (at 0 10 16) (Some 31)
          ∷ If (at 0 10 5) 30 32 None
          ∷ SimpleName (at 0 11 5) (codes "n")
          ∷ SimpleName (at 0 11 9) (codes "n")
          ∷ Number (at 0 11 13) 1 false
          ∷ Binary (at 0 11 11) 17 35 36
          ∷ Assign (at 0 11 7) 34 37
          ∷ New (at 0 12 12) (at 0 12 16) (codes "Main") []
          ∷ Return (at 0 12 5) (Some 39)
          ∷ Block (at 0 9 35) (33 ∷ 38 ∷ 40 ∷ [])
          ∷ Method (at 0 9 18) (codes "getNextMission") None 27 None (Some 41)
          ∷ Class (at 0 6 7) (codes "Seq") None (Some 17) (19 ∷ 26 ∷ 42 ∷ [])
          ∷ ScopeName (at 1 1 19) (codes "M")
          ∷ ScopeName (at 1 1 31) (codes "IMMORTAL")
          ∷ DefineScope (at 1 1 1) 44 45 false
          ∷ Flags (at 1 1 1) (Some 46) None None false false false
          ∷ SuperType (at 1 2 20) (codes "Mission") None
          ∷ Supers (at 1 2 12) (Some 48) []
          ∷ LongType (at 1 3 10)
          ∷ Number (at 1 3 44) 200 false
          ∷ Return (at 1 3 37) (Some 51)
          ∷ Block (at 1 3 35) (52 ∷ [])
          ∷ Method (at 1 3 15) (codes "missionMemorySize") None 50 None (Some 53)
          ∷ ScopeName (at 1 4 11) (codes "M")
          ∷ Flags (at 1 4 3) None None (Some 55) false false false
          ∷ VoidType (at 1 4 23)
          ∷ ClassType (at 1 5 5) (codes "Tank") None false
          ∷ New (at 1 5 14) (at 1 5 18) (codes "Tank") []
          ∷ LocalWithValue (at 1 5 12) (at 1 5 10) (codes "t") None 58 59
          ∷ SimpleName (at 1 6 5) (codes "Services")
          ∷ SimpleName (at 1 6 25) (codes "t")
          ∷ Number (at 1 6 28) 20 false
          ∷ Call (at 1 6 14) (codes "setCeiling") (Some 61) (62 ∷ 63 ∷ [])
          ∷ ExpressionStatement (at 1 6 14) 64
          ∷ ClassType (at 1 7 5) (codes "Alarm") None false
          ∷ SimpleName (at 1 7 25) (codes "t")
          ∷ New (at 1 7 15) (at 1 7 19) (codes "Alarm") (67 ∷ [])
          ∷ LocalWithValue (at 1 7 13) (at 1 7 11) (codes "a") None 66 68
          ∷ SimpleName (at 1 8 5) (codes "a")
          ∷ Call (at 1 8 7) (codes "register") (Some 70) []
          ∷ ExpressionStatement (at 1 8 7) 71
          ∷ ClassType (at 1 9 5) (codes "Sensor") None false
          ∷ SimpleName (at 1 9 27) (codes "t")
          ∷ SimpleName (at 1 9 30) (codes "a")
          ∷ New (at 1 9 16) (at 1 9 20) (codes "Sensor") (74 ∷ 75 ∷ [])
          ∷ LocalWithValue (at 1 9 14) (at 1 9 12) (codes "s") None 73 76
          ∷ SimpleName (at 1 10 5) (codes "s")
          ∷ Call (at 1 10 7) (codes "register") (Some 78) []
          ∷ ExpressionStatement (at 1 10 7) 79
          ∷ ClassType (at 1 11 5) (codes "Pump") None false
          ∷ SimpleName (at 1 11 23) (codes "t")
          ∷ New (at 1 11 14) (at 1 11 18) (codes "Pump") (82 ∷ [])
          ∷ LocalWithValue (at 1 11 12) (at 1 11 10) (codes "p") None 81 83
          ∷ SimpleName (at 1 12 5) (codes "p")
          ∷ Call (at 1 12 7) (codes "register") (Some 85) []
          ∷ ExpressionStatement (at 1 12 7) 86
          ∷ Block (at 1 4 41) (60 ∷ 65 ∷ 69 ∷ 72 ∷ 77 ∷ 80 ∷ 84 ∷ 87 ∷ [])
          ∷ Method (at 1 4 28) (codes "initialize") (Some 56) 57 None (Some 88)
          ∷ Class (at 1 2 7) (codes "Main") (Some 47) (Some 49) (54 ∷ 89 ∷ [])
          ∷ ScopeName (at 1 15 8) (codes "M")
          ∷ Flags (at 1 15 1) None (Some 91) None false false false
          ∷ IntType (at 1 16 3) false
          ∷ Field (at 1 16 7) (codes "level") None 93 None None
          ∷ ScopeName (at 1 17 11) (codes "CALLER")
          ∷ Flags (at 1 17 3) None None (Some 95) false false true
          ∷ VoidType (at 1 17 32)
          ∷ IntType (at 1 17 41) false
          ∷ Parameter (at 1 17 45) (codes "v") None 98
          ∷ Parameters (at 1 17 40) (99 ∷ [])
          ∷ SimpleName (at 1 17 50) (codes "level")
          ∷ SimpleName (at 1 17 58) (codes "v")
          ∷ Assign (at 1 17 56) 101 102
          ∷ Block (at 1 17 48) (103 ∷ [])
          ∷ Method (at 1 17 37) (codes "set") (Some 96) 97 (Some 100) (Some 104)
          ∷ ScopeName (at 1 18 11) (codes "CALLER")
          ∷ Flags (at 1 18 3) None None (Some 106) false false true
          ∷ IntType (at 1 18 32) false
          ∷ SimpleName (at 1 18 51) (codes "level")
          ∷ Return (at 1 18 44) (Some 109)
          ∷ Block (at 1 18 42) (110 ∷ [])
          ∷ Method (at 1 18 36) (codes "get") (Some 107) 108 None (Some 111)
          ∷ Class (at 1 15 19) (codes "Tank") (Some 92) None (94 ∷ 105 ∷ 112 ∷ [])
          ∷ IntType (at 1 20 13) false
          ∷ Field (at 1 20 17) (codes "v") None 114 None None
          ∷ IntType (at 1 20 24) false
          ∷ Parameter (at 1 20 28) (codes "a") None 116
          ∷ Parameters (at 1 20 23) (117 ∷ [])
          ∷ SimpleName (at 1 20 33) (codes "v")
          ∷ SimpleName (at 1 20 37) (codes "a")
          ∷ Assign (at 1 20 35) 119 120
          ∷ Block (at 1 20 31) (121 ∷ [])
          ∷ Constructor (at 1 20 20) (codes "Box") None (Some 118) None 122
          ∷ Class (at 1 20 7) (codes "Box") None None (115 ∷ 123 ∷ [])
          ∷ ScopeName (at 1 21 8) (codes "M")
          ∷ ScopeName (at 1 21 31) (codes "PA")
          ∷ ScopeName (at 1 21 44) (codes "M")
          ∷ DefineScope (at 1 21 13) 126 127 false
          ∷ Flags (at 1 21 1) (Some 128) (Some 125) None false false false
          ∷ SuperType (at 1 21 69) (codes "AperiodicEventHandler") None
          ∷ Supers (at 1 21 61) (Some 130) []
          ∷ ClassType (at 1 22 3) (codes "Tank") None false
          ∷ Field (at 1 22 8) (codes "t") None 132 None None
          ∷ ClassType (at 1 23 9) (codes "Tank") None false
          ∷ Parameter (at 1 23 14) (codes "x") None 134
          ∷ Parameters (at 1 23 8) (135 ∷ [])
          ∷ Number (at 1 23 48) 18 false
          ∷ New (at 1 23 25) (at 1 23 29) (codes "PriorityParameters") (137 ∷ [])
          ∷ New (at 1 23 53) (at 1 23 57) (codes "AperiodicParameters") []
          ∷ Number (at 1 23 102) 0 false
          ∷ New (at 1 23 80) (at 1 23 84) (codes "StorageParameters") (140 ∷ [])
          ∷ SuperCall (at 1 23 19) (138 ∷ 139 ∷ 141 ∷ [])
          ∷ SimpleName (at 1 23 107) (codes "t")
          ∷ SimpleName (at 1 23 111) (codes "x")
          ∷ Assign (at 1 23 109) 143 144
          ∷ Block (at 1 23 17) (145 ∷ [])
          ∷ Constructor (at 1 23 3) (codes "Alarm") None (Some 136) (Some 142) 146
          ∷ VoidType (at 1 24 10)
          ∷ SimpleName (at 1 24 36) (codes "Trace")
          ∷ Text (at 1 24 48) (codes "alarm")
          ∷ SimpleName (at 1 24 57) (codes "t")
          ∷ Call (at 1 24 59) (codes "get") (Some 151) []
          ∷ Call (at 1 24 42) (codes "print") (Some 149) (150 ∷ 152 ∷ [])
          ∷ ExpressionStatement (at 1 24 42) 153
          ∷ Block (at 1 24 34) (154 ∷ [])
          ∷ Method (at 1 24 15) (codes "handleAsyncEvent") None 148 None (Some 155)
          ∷ Class (at 1 21 55) (codes "Alarm") (Some 129) (Some 131) (133 ∷ 147 ∷ 156 ∷ [])
          ∷ ScopeName (at 1 26 8) (codes "M")
          ∷ ScopeName (at 1 26 31) (codes "PS")
          ∷ ScopeName (at 1 26 44) (codes "M")
          ∷ DefineScope (at 1 26 13) 159 160 false
          ∷ Flags (at 1 26 1) (Some 161) (Some 158) None false false false
          ∷ SuperType (at 1 26 70) (codes "PeriodicEventHandler") None
          ∷ Supers (at 1 26 62) (Some 163) []
          ∷ ClassType (at 1 27 3) (codes "Tank") None false
          ∷ Field (at 1 27 8) (codes "t") None 165 None None
          ∷ ClassType (at 1 27 11) (codes "Alarm") None false
          ∷ Field (at 1 27 17) (codes "a") None 167 None None
          ∷ ClassType (at 1 28 10) (codes "Tank") None false
          ∷ Parameter (at 1 28 15) (codes "x") None 169
          ∷ ClassType (at 1 28 18) (codes "Alarm") None false
          ∷ Parameter (at 1 28 24) (codes "y") None 171
          ∷ Parameters (at 1 28 9) (170 ∷ 172 ∷ [])
          ∷ Number (at 1 28 58) 12 false
          ∷ New (at 1 28 35) (at 1 28 39) (codes "PriorityParameters") (174 ∷ [])
          ∷ Number (at 1 28 103) 0 false
          ∷ Number (at 1 28 106) 0 false
          ∷ New (at 1 28 86) (at 1 28 90) (codes "RelativeTime") (176 ∷ 177 ∷ [])
          ∷ Number (at 1 28 127) 2 false
          ∷ Number (at 1 28 130) 0 false
          ∷ New (at 1 28 110) (at 1 28 114) (codes "RelativeTime") (179 ∷ 180 ∷ [])
          ∷ New (at 1 28 63) (at 1 28 67) (codes "PeriodicParameters") (178 ∷ 181 ∷ [])
          ∷ Number (at 1 28 157) 24 false
          ∷ New (at 1 28 135) (at 1 28 139) (codes "StorageParameters") (183 ∷ [])
          ∷ SuperCall (at 1 28 29) (175 ∷ 182 ∷ 184 ∷ [])
          ∷ SimpleName (at 1 28 163) (codes "t")
          ∷ SimpleName (at 1 28 167) (codes "x")
          ∷ Assign (at 1 28 165) 186 187
          ∷ SimpleName (at 1 28 170) (codes "a")
          ∷ SimpleName (at 1 28 174) (codes "y")
          ∷ Assign (at 1 28 172) 189 190
          ∷ Block (at 1 28 27) (188 ∷ 191 ∷ [])
          ∷ Constructor (at 1 28 3) (codes "Sensor") None (Some 173) (Some 185) 192
          ∷ VoidType (at 1 29 10)
          ∷ ClassType (at 1 30 5) (codes "Box") None false
          ∷ SimpleName (at 1 30 21) (codes "Device")
          ∷ Number (at 1 30 33) 1 false
          ∷ Call (at 1 30 28) (codes "read") (Some 196) (197 ∷ [])
          ∷ New (at 1 30 13) (at 1 30 17) (codes "Box") (198 ∷ [])
          ∷ LocalWithValue (at 1 30 11) (at 1 30 9) (codes "b") None 195 199
          ∷ SimpleName (at 1 31 5) (codes "t")
          ∷ SimpleName (at 1 31 11) (codes "b")
          ∷ FieldAccess (at 1 31 13) (codes "v") 202
          ∷ Call (at 1 31 7) (codes "set") (Some 201) (203 ∷ [])
          ∷ ExpressionStatement (at 1 31 7) 204
          ∷ SimpleName (at 1 32 9) (codes "b")
          ∷ FieldAccess (at 1 32 11) (codes "v") 206
          ∷ Number (at 1 32 15) 90 false
          ∷ Binary (at 1 32 13) 14 207 208
          ∷ SimpleName (at 1 32 19) (codes "a")
          ∷ Call (at 1 32 21) (codes "release") (Some 210) []
          ∷ ExpressionStatement (at 1 32 21) 211
          ∷ If (at 1 32 5) 209 212 None
          ∷ Block (at 1 29 34) (200 ∷ 205 ∷ 213 ∷ [])
          ∷ Method (at 1 29 15) (codes "handleAsyncEvent") None 194 None (Some 214)
          ∷ Class (at 1 26 55) (codes "Sensor") (Some 162) (Some 164) (166 ∷ 168 ∷ 193 ∷ 215 ∷ [])
          ∷ ScopeName (at 1 35 8) (codes "M")
          ∷ ScopeName (at 1 35 31) (codes "PP")
          ∷ ScopeName (at 1 35 44) (codes "M")
          ∷ DefineScope (at 1 35 13) 218 219 false
          ∷ Flags (at 1 35 1) (Some 220) (Some 217) None false false false
          ∷ SuperType (at 1 35 68) (codes "PeriodicEventHandler") None
          ∷ Supers (at 1 35 60) (Some 222) []
          ∷ ClassType (at 1 36 3) (codes "Tank") None false
          ∷ Field (at 1 36 8) (codes "t") None 224 None None
          ∷ ClassType (at 1 37 8) (codes "Tank") None false
          ∷ Parameter (at 1 37 13) (codes "x") None 226
          ∷ Parameters (at 1 37 7) (227 ∷ [])
          ∷ Number (at 1 37 47) 10 false
          ∷ New (at 1 37 24) (at 1 37 28) (codes "PriorityParameters") (229 ∷ [])
          ∷ Number (at 1 37 92) 0 false
          ∷ Number (at 1 37 95) 5000 false
          ∷ New (at 1 37 75) (at 1 37 79) (codes "RelativeTime") (231 ∷ 232 ∷ [])
          ∷ Number (at 1 37 119) 2 false
          ∷ Number (at 1 37 122) 500000 false
          ∷ New (at 1 37 102) (at 1 37 106) (codes "RelativeTime") (234 ∷ 235 ∷ [])
          ∷ New (at 1 37 52) (at 1 37 56) (codes "PeriodicParameters") (233 ∷ 236 ∷ [])
          ∷ Number (at 1 37 154) 0 false
          ∷ New (at 1 37 132) (at 1 37 136) (codes "StorageParameters") (238 ∷ [])
          ∷ SuperCall (at 1 37 18) (230 ∷ 237 ∷ 239 ∷ [])
          ∷ SimpleName (at 1 37 159) (codes "t")
          ∷ SimpleName (at 1 37 163) (codes "x")
          ∷ Assign (at 1 37 161) 241 242
          ∷ Block (at 1 37 16) (243 ∷ [])
          ∷ Constructor (at 1 37 3) (codes "Pump") None (Some 228) (Some 240) 244
          ∷ VoidType (at 1 38 10)
          ∷ SimpleName (at 1 38 36) (codes "Trace")
          ∷ Text (at 1 38 48) (codes "pump")
          ∷ SimpleName (at 1 38 56) (codes "t")
          ∷ Call (at 1 38 58) (codes "get") (Some 249) []
          ∷ Call (at 1 38 42) (codes "print") (Some 247) (248 ∷ 250 ∷ [])
          ∷ ExpressionStatement (at 1 38 42) 251
          ∷ Block (at 1 38 34) (252 ∷ [])
          ∷ Method (at 1 38 15) (codes "handleAsyncEvent") None 246 None (Some 253)
          ∷ Class (at 1 35 55) (codes "Pump") (Some 221) (Some 223) (225 ∷ 245 ∷ 254 ∷ [])
          ∷ [];
      files = ((15 ∷ 43 ∷ []) ∷ (90 ∷ 113 ∷ 124 ∷ 157 ∷ 216 ∷ 255 ∷ []) ∷ []);
    }

controller_class : class_phase (declarations_of controller) ≡ []
unfolding computing
controller_class = refl

controller_type : type_phase (declarations_of controller) ≡ []
unfolding computing
controller_type = refl

controller_scope : scope_phase (declarations_of controller) ≡ []
unfolding computing
controller_scope = refl

controller_use : use_phase (declarations_of controller) ≡ []
unfolding computing
controller_use = refl

pub controller_accepted : IsAccepted controller
unfolding computing
controller_accepted = accepted controller controller_class controller_type controller_scope controller_use

pub controller_is_forest : IsForest controller
unfolding computing times all_children children_first all_below are_distinct AllClasses
controller_is_forest =
    forest_passes controller refl refl (
      (Class (at 0 1 7) (codes "App") None (Some 1) (6 ∷ 11 ∷ 14 ∷ []), refl, is_class),
      (
        (Class (at 0 6 7) (codes "Seq") None (Some 17) (19 ∷ 26 ∷ 42 ∷ []), refl, is_class),
        (
          (Class (at 1 2 7) (codes "Main") (Some 47) (Some 49) (54 ∷ 89 ∷ []), refl, is_class),
          (
            (Class (at 1 15 19) (codes "Tank") (Some 92) None (94 ∷ 105 ∷ 112 ∷ []), refl, is_class),
            (
              (Class (at 1 20 7) (codes "Box") None None (115 ∷ 123 ∷ []), refl, is_class),
              (
                (Class (at 1 21 55) (codes "Alarm") (Some 129) (Some 131) (133 ∷ 147 ∷ 156 ∷ []), refl, is_class),
                (
                  (
                    Class (at 1 26 55) (codes "Sensor") (Some 162) (Some 164) (166 ∷ 168 ∷ 193 ∷ 215 ∷ []),
                    refl,
                    is_class,
                  ),
                  (
                    (Class (at 1 35 55) (codes "Pump") (Some 221) (Some 223) (225 ∷ 245 ∷ 254 ∷ []), refl, is_class),
                    tt,
                  ),
                ),
              ),
            ),
          ),
        ),
      ),
    )
    (omega arith) (omega arith)
