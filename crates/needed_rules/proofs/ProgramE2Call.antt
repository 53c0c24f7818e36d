-- The nodes of E2.java. Printed by expected/print_nodes.py.
use Rattle.std.specs.Prelude.{[], ◌∷◌, Some, None, codes, true, false, ℕ}
use Rattle.scj_base.specs.declared.positions.Position.{Position}
use Rattle.scj_tree.specs.declared.nodes.Node.TheVariants.{Assign, Block, Call, Class, ClassType, Constructor, DefineScope, ExpressionStatement, Field, FieldAccess, Flags, LongType, Method, New, Number, Return, ScopeName, SimpleName, SuperCall, SuperType, Supers, VoidType}
use Rattle.scj_tree.specs.Forest.{Forest}

abbrev at : ℕ → ℕ → ℕ → Position
at file line col = record { file = file; line = line; col = col }

abbrev pub e2_call : Forest
e2_call =
    record {
      nodes =
          SuperType (at 0 1 22) (codes "Safelet") None
          ∷ Supers (at 0 1 11) None (0 ∷ [])
          ∷ ClassType (at 0 2 10) (codes "MissionSequencer") None false
          ∷ New (at 0 2 51) (at 0 2 55) (codes "Seq") []
          ∷ Return (at 0 2 44) (Some 3)
          ∷ Block (at 0 2 42) (4 ∷ [])
          ∷ Method (at 0 2 27) (codes "getSequencer") None 2 None (Some 5)
          ∷ LongType (at 0 3 10)
          ∷ Number (at 0 3 45) 400 false
          ∷ Return (at 0 3 38) (Some 8)
          ∷ Block (at 0 3 36) (9 ∷ [])
          ∷ Method (at 0 3 15) (codes "immortalMemorySize") None 7 None (Some 10)
          ∷ VoidType (at 0 4 10)
          ∷ Block (at 0 4 39) []
          ∷ Method (at 0 4 15) (codes "initializeApplication") None 12 None (Some 13)
          ∷ Class (at 0 1 7) (codes "App") None (Some 1) (6 ∷ 11 ∷ 14 ∷ [])
          ∷ SuperType (at 0 6 19) (codes "MissionSequencer") None
          ∷ Supers (at 0 6 11) (Some 16) []
          ∷ Number (at 0 7 40) 5 false
          ∷ New (at 0 7 17) (at 0 7 21) (codes "PriorityParameters") (18 ∷ [])
          ∷ Number (at 0 7 66) 0 false
          ∷ New (at 0 7 44) (at 0 7 48) (codes "StorageParameters") (20 ∷ [])
          ∷ SuperCall (at 0 7 11) (19 ∷ 21 ∷ [])
          ∷ Block (at 0 7 9) []
          ∷ Constructor (at 0 7 3) (codes "Seq") None None (Some 22) 23
          ∷ ClassType (at 0 8 10) (codes "Mission") None false
          ∷ New (at 0 8 44) (at 0 8 48) (codes "Main") []
          ∷ Return (at 0 8 37) (Some 26)
          ∷ Block (at 0 8 35) (27 ∷ [])
          ∷ Method (at 0 8 18) (codes "getNextMission") None 25 None (Some 28)
          ∷ Class (at 0 6 7) (codes "Seq") None (Some 17) (24 ∷ 29 ∷ [])
          ∷ ScopeName (at 0 10 19) (codes "M")
          ∷ ScopeName (at 0 10 31) (codes "IMMORTAL")
          ∷ DefineScope (at 0 10 1) 31 32 false
          ∷ Flags (at 0 10 1) (Some 33) None None false false false
          ∷ SuperType (at 0 10 62) (codes "Mission") None
          ∷ Supers (at 0 10 54) (Some 35) []
          ∷ LongType (at 0 11 10)
          ∷ Number (at 0 11 44) 200 false
          ∷ Return (at 0 11 37) (Some 38)
          ∷ Block (at 0 11 35) (39 ∷ [])
          ∷ Method (at 0 11 15) (codes "missionMemorySize") None 37 None (Some 40)
          ∷ VoidType (at 0 12 10)
          ∷ Call (at 0 12 30) (codes "put") None []
          ∷ ExpressionStatement (at 0 12 30) 43
          ∷ Block (at 0 12 28) (44 ∷ [])
          ∷ Method (at 0 12 15) (codes "initialize") None 42 None (Some 45)
          ∷ VoidType (at 0 13 3)
          ∷ SimpleName (at 0 13 16) (codes "Keep")
          ∷ FieldAccess (at 0 13 21) (codes "last") 48
          ∷ New (at 0 13 28) (at 0 13 32) (codes "Object") []
          ∷ Assign (at 0 13 26) 49 50
          ∷ Block (at 0 13 14) (51 ∷ [])
          ∷ Method (at 0 13 8) (codes "put") None 47 None (Some 52)
          ∷ Class (at 0 10 49) (codes "Main") (Some 34) (Some 36) (41 ∷ 46 ∷ 53 ∷ [])
          ∷ Flags (at 0 15 14) None None None true false false
          ∷ ClassType (at 0 15 21) (codes "Object") None false
          ∷ Field (at 0 15 28) (codes "last") (Some 55) 56 None None
          ∷ Class (at 0 15 7) (codes "Keep") None None (57 ∷ [])
          ∷ [];
      files = ((15 ∷ 30 ∷ 54 ∷ 58 ∷ []) ∷ []);
    }
