-- The definitions of guards at small programs: which stores they allow, and what undoes them; and where UNKNOWN stands.
use Rattle.std.proofs.Common.{◌≡◌, ℕ, [], ◌∷◌, refl, Some, None, codes, false}
use Rattle.scj_base.specs.declared.findings.Found.{Found}
use Rattle.scj_base.specs.declared.findings.Rule.{Rule}
use Rattle.scj_base.specs.declared.findings.Rule.TheVariants.{A1, E5}
use Rattle.scj_base.specs.declared.positions.Position.{Position}
use Rattle.scj_tree.specs.declared.nodes.Node.TheVariants.{Assign, Block, Call, Class, ClassType, Field, FieldAccess, Flags, If, Method, Null, Parameter, Parameters, Parenthesized, Return, ScopeName, SimpleName, VoidType}
use Rattle.scj_tree.specs.Forest.{Forest}
use Rattle.scj_rules.specs.Contexts.{declarations_of}
use Rattle.scj_rules.specs.Phases.{type_phase, use_phase}
use Rattle.scj_rules.proofs.Computing.{computing}

abbrev at : ℕ → ℕ → ℕ → Position
at file line col = record { file = file; line = line; col = col }

abbrev found : Rule → Position → Found
found rule position = record { pos = position; rule = rule }

-- the store of one subject of a guard in a field of the other, in either order
abbrev pub guarded : Forest
guarded =
    record {
      nodes =
          ClassType (at 0 1 14) (codes "Node") None false
          ∷ Field (at 0 1 19) (codes "next") None 0 None None
          ∷ Class (at 0 1 7) (codes "Node") None None (1 ∷ [])
          ∷ VoidType (at 0 3 3)
          ∷ ScopeName (at 0 3 19) (codes "UNKNOWN")
          ∷ Flags (at 0 3 12) None (Some 4) None false false false
          ∷ ClassType (at 0 3 28) (codes "Node") None false
          ∷ Parameter (at 0 3 33) (codes "a") (Some 5) 6
          ∷ ScopeName (at 0 3 43) (codes "UNKNOWN")
          ∷ Flags (at 0 3 36) None (Some 8) None false false false
          ∷ ClassType (at 0 3 52) (codes "Node") None false
          ∷ Parameter (at 0 3 57) (codes "b") (Some 9) 10
          ∷ Parameters (at 0 3 11) (7 ∷ 11 ∷ [])
          ∷ SimpleName (at 0 4 9) (codes "ManagedMemory")
          ∷ SimpleName (at 0 4 35) (codes "a")
          ∷ SimpleName (at 0 4 38) (codes "b")
          ∷ Call (at 0 4 23) (codes "allocInSame") (Some 13) (14 ∷ 15 ∷ [])
          ∷ SimpleName (at 0 4 44) (codes "a")
          ∷ FieldAccess (at 0 4 46) (codes "next") 17
          ∷ SimpleName (at 0 4 53) (codes "b")
          ∷ Assign (at 0 4 51) 18 19
          ∷ Block (at 0 4 42) (20 ∷ [])
          ∷ If (at 0 4 5) 16 21 None
          ∷ Block (at 0 3 60) (22 ∷ [])
          ∷ Method (at 0 3 8) (codes "tie") None 3 (Some 12) (Some 23)
          ∷ Class (at 0 2 7) (codes "Link") None None (24 ∷ [])
          ∷ [];
      files = ((2 ∷ 25 ∷ []) ∷ []);
    }

guarded_types : type_phase (declarations_of guarded) ≡ []
unfolding computing
guarded_types = refl

guarded_uses : use_phase (declarations_of guarded) ≡ []
unfolding computing
guarded_uses = refl

abbrev pub guarded_in_other_order : Forest
guarded_in_other_order =
    record {
      nodes =
          ClassType (at 0 1 14) (codes "Node") None false
          ∷ Field (at 0 1 19) (codes "next") None 0 None None
          ∷ Class (at 0 1 7) (codes "Node") None None (1 ∷ [])
          ∷ VoidType (at 0 3 3)
          ∷ ScopeName (at 0 3 19) (codes "UNKNOWN")
          ∷ Flags (at 0 3 12) None (Some 4) None false false false
          ∷ ClassType (at 0 3 28) (codes "Node") None false
          ∷ Parameter (at 0 3 33) (codes "a") (Some 5) 6
          ∷ ScopeName (at 0 3 43) (codes "UNKNOWN")
          ∷ Flags (at 0 3 36) None (Some 8) None false false false
          ∷ ClassType (at 0 3 52) (codes "Node") None false
          ∷ Parameter (at 0 3 57) (codes "b") (Some 9) 10
          ∷ Parameters (at 0 3 11) (7 ∷ 11 ∷ [])
          ∷ SimpleName (at 0 4 9) (codes "ManagedMemory")
          ∷ SimpleName (at 0 4 35) (codes "b")
          ∷ SimpleName (at 0 4 38) (codes "a")
          ∷ Call (at 0 4 23) (codes "allocInSame") (Some 13) (14 ∷ 15 ∷ [])
          ∷ SimpleName (at 0 4 42) (codes "a")
          ∷ FieldAccess (at 0 4 44) (codes "next") 17
          ∷ SimpleName (at 0 4 51) (codes "b")
          ∷ Assign (at 0 4 49) 18 19
          ∷ If (at 0 4 5) 16 20 None
          ∷ Block (at 0 3 60) (21 ∷ [])
          ∷ Method (at 0 3 8) (codes "tie") None 3 (Some 12) (Some 22)
          ∷ Class (at 0 2 7) (codes "Link") None None (23 ∷ [])
          ∷ [];
      files = ((2 ∷ 24 ∷ []) ∷ []);
    }

guarded_in_other_order_uses : use_phase (declarations_of guarded_in_other_order) ≡ []
unfolding computing
guarded_in_other_order_uses = refl

-- without a guard
abbrev pub unguarded : Forest
unguarded =
    record {
      nodes =
          ClassType (at 0 1 14) (codes "Node") None false
          ∷ Field (at 0 1 19) (codes "next") None 0 None None
          ∷ Class (at 0 1 7) (codes "Node") None None (1 ∷ [])
          ∷ VoidType (at 0 3 3)
          ∷ ScopeName (at 0 3 19) (codes "UNKNOWN")
          ∷ Flags (at 0 3 12) None (Some 4) None false false false
          ∷ ClassType (at 0 3 28) (codes "Node") None false
          ∷ Parameter (at 0 3 33) (codes "a") (Some 5) 6
          ∷ ScopeName (at 0 3 43) (codes "UNKNOWN")
          ∷ Flags (at 0 3 36) None (Some 8) None false false false
          ∷ ClassType (at 0 3 52) (codes "Node") None false
          ∷ Parameter (at 0 3 57) (codes "b") (Some 9) 10
          ∷ Parameters (at 0 3 11) (7 ∷ 11 ∷ [])
          ∷ SimpleName (at 0 4 5) (codes "a")
          ∷ FieldAccess (at 0 4 7) (codes "next") 13
          ∷ SimpleName (at 0 4 14) (codes "b")
          ∷ Assign (at 0 4 12) 14 15
          ∷ Block (at 0 3 60) (16 ∷ [])
          ∷ Method (at 0 3 8) (codes "tie") None 3 (Some 12) (Some 17)
          ∷ Class (at 0 2 7) (codes "Link") None None (18 ∷ [])
          ∷ [];
      files = ((2 ∷ 19 ∷ []) ∷ []);
    }

unguarded_uses : use_phase (declarations_of unguarded) ≡ found E5 (at 0 4 12) ∷ []
unfolding computing
unguarded_uses = refl

-- the part assigns to a subject
abbrev pub undone : Forest
undone =
    record {
      nodes =
          ClassType (at 0 1 14) (codes "Node") None false
          ∷ Field (at 0 1 19) (codes "next") None 0 None None
          ∷ Class (at 0 1 7) (codes "Node") None None (1 ∷ [])
          ∷ VoidType (at 0 3 3)
          ∷ ScopeName (at 0 3 19) (codes "UNKNOWN")
          ∷ Flags (at 0 3 12) None (Some 4) None false false false
          ∷ ClassType (at 0 3 28) (codes "Node") None false
          ∷ Parameter (at 0 3 33) (codes "a") (Some 5) 6
          ∷ ScopeName (at 0 3 43) (codes "UNKNOWN")
          ∷ Flags (at 0 3 36) None (Some 8) None false false false
          ∷ ClassType (at 0 3 52) (codes "Node") None false
          ∷ Parameter (at 0 3 57) (codes "b") (Some 9) 10
          ∷ Parameters (at 0 3 11) (7 ∷ 11 ∷ [])
          ∷ SimpleName (at 0 4 9) (codes "ManagedMemory")
          ∷ SimpleName (at 0 4 35) (codes "a")
          ∷ SimpleName (at 0 4 38) (codes "b")
          ∷ Call (at 0 4 23) (codes "allocInSame") (Some 13) (14 ∷ 15 ∷ [])
          ∷ SimpleName (at 0 4 44) (codes "a")
          ∷ SimpleName (at 0 4 48) (codes "b")
          ∷ Assign (at 0 4 46) 17 18
          ∷ SimpleName (at 0 4 51) (codes "a")
          ∷ FieldAccess (at 0 4 53) (codes "next") 20
          ∷ SimpleName (at 0 4 60) (codes "b")
          ∷ Assign (at 0 4 58) 21 22
          ∷ Block (at 0 4 42) (19 ∷ 23 ∷ [])
          ∷ If (at 0 4 5) 16 24 None
          ∷ Block (at 0 3 60) (25 ∷ [])
          ∷ Method (at 0 3 8) (codes "tie") None 3 (Some 12) (Some 26)
          ∷ Class (at 0 2 7) (codes "Link") None None (27 ∷ [])
          ∷ [];
      files = ((2 ∷ 28 ∷ []) ∷ []);
    }

undone_uses : use_phase (declarations_of undone) ≡ found E5 (at 0 4 58) ∷ []
unfolding computing
undone_uses = refl

-- the second part isn't guarded
abbrev pub in_second_part : Forest
in_second_part =
    record {
      nodes =
          ClassType (at 0 1 14) (codes "Node") None false
          ∷ Field (at 0 1 19) (codes "next") None 0 None None
          ∷ Class (at 0 1 7) (codes "Node") None None (1 ∷ [])
          ∷ VoidType (at 0 3 3)
          ∷ ScopeName (at 0 3 19) (codes "UNKNOWN")
          ∷ Flags (at 0 3 12) None (Some 4) None false false false
          ∷ ClassType (at 0 3 28) (codes "Node") None false
          ∷ Parameter (at 0 3 33) (codes "a") (Some 5) 6
          ∷ ScopeName (at 0 3 43) (codes "UNKNOWN")
          ∷ Flags (at 0 3 36) None (Some 8) None false false false
          ∷ ClassType (at 0 3 52) (codes "Node") None false
          ∷ Parameter (at 0 3 57) (codes "b") (Some 9) 10
          ∷ Parameters (at 0 3 11) (7 ∷ 11 ∷ [])
          ∷ SimpleName (at 0 4 9) (codes "ManagedMemory")
          ∷ SimpleName (at 0 4 35) (codes "a")
          ∷ SimpleName (at 0 4 38) (codes "b")
          ∷ Call (at 0 4 23) (codes "allocInSame") (Some 13) (14 ∷ 15 ∷ [])
          ∷ Block (at 0 4 42) []
          ∷ SimpleName (at 0 4 51) (codes "a")
          ∷ FieldAccess (at 0 4 53) (codes "next") 18
          ∷ SimpleName (at 0 4 60) (codes "b")
          ∷ Assign (at 0 4 58) 19 20
          ∷ If (at 0 4 5) 16 17 (Some 21)
          ∷ Block (at 0 3 60) (22 ∷ [])
          ∷ Method (at 0 3 8) (codes "tie") None 3 (Some 12) (Some 23)
          ∷ Class (at 0 2 7) (codes "Link") None None (24 ∷ [])
          ∷ [];
      files = ((2 ∷ 25 ∷ []) ∷ []);
    }

in_second_part_uses : use_phase (declarations_of in_second_part) ≡ found E5 (at 0 4 58) ∷ []
unfolding computing
in_second_part_uses = refl

-- a condition in parentheses guards nothing
abbrev pub in_parentheses : Forest
in_parentheses =
    record {
      nodes =
          ClassType (at 0 1 14) (codes "Node") None false
          ∷ Field (at 0 1 19) (codes "next") None 0 None None
          ∷ Class (at 0 1 7) (codes "Node") None None (1 ∷ [])
          ∷ VoidType (at 0 3 3)
          ∷ ScopeName (at 0 3 19) (codes "UNKNOWN")
          ∷ Flags (at 0 3 12) None (Some 4) None false false false
          ∷ ClassType (at 0 3 28) (codes "Node") None false
          ∷ Parameter (at 0 3 33) (codes "a") (Some 5) 6
          ∷ ScopeName (at 0 3 43) (codes "UNKNOWN")
          ∷ Flags (at 0 3 36) None (Some 8) None false false false
          ∷ ClassType (at 0 3 52) (codes "Node") None false
          ∷ Parameter (at 0 3 57) (codes "b") (Some 9) 10
          ∷ Parameters (at 0 3 11) (7 ∷ 11 ∷ [])
          ∷ SimpleName (at 0 4 10) (codes "ManagedMemory")
          ∷ SimpleName (at 0 4 36) (codes "a")
          ∷ SimpleName (at 0 4 39) (codes "b")
          ∷ Call (at 0 4 24) (codes "allocInSame") (Some 13) (14 ∷ 15 ∷ [])
          ∷ Parenthesized (at 0 4 9) 16
          ∷ SimpleName (at 0 4 44) (codes "a")
          ∷ FieldAccess (at 0 4 46) (codes "next") 18
          ∷ SimpleName (at 0 4 53) (codes "b")
          ∷ Assign (at 0 4 51) 19 20
          ∷ If (at 0 4 5) 17 21 None
          ∷ Block (at 0 3 60) (22 ∷ [])
          ∷ Method (at 0 3 8) (codes "tie") None 3 (Some 12) (Some 23)
          ∷ Class (at 0 2 7) (codes "Link") None None (24 ∷ [])
          ∷ [];
      files = ((2 ∷ 25 ∷ []) ∷ []);
    }

in_parentheses_uses : use_phase (declarations_of in_parentheses) ≡ found E5 (at 0 4 51) ∷ []
unfolding computing
in_parentheses_uses = refl

-- what is read of a subject is none
abbrev pub of_its_field : Forest
of_its_field =
    record {
      nodes =
          ClassType (at 0 1 14) (codes "Node") None false
          ∷ Field (at 0 1 19) (codes "next") None 0 None None
          ∷ Class (at 0 1 7) (codes "Node") None None (1 ∷ [])
          ∷ VoidType (at 0 3 3)
          ∷ ScopeName (at 0 3 19) (codes "UNKNOWN")
          ∷ Flags (at 0 3 12) None (Some 4) None false false false
          ∷ ClassType (at 0 3 28) (codes "Node") None false
          ∷ Parameter (at 0 3 33) (codes "a") (Some 5) 6
          ∷ ScopeName (at 0 3 43) (codes "UNKNOWN")
          ∷ Flags (at 0 3 36) None (Some 8) None false false false
          ∷ ClassType (at 0 3 52) (codes "Node") None false
          ∷ Parameter (at 0 3 57) (codes "b") (Some 9) 10
          ∷ Parameters (at 0 3 11) (7 ∷ 11 ∷ [])
          ∷ SimpleName (at 0 4 9) (codes "ManagedMemory")
          ∷ SimpleName (at 0 4 35) (codes "a")
          ∷ SimpleName (at 0 4 38) (codes "b")
          ∷ Call (at 0 4 23) (codes "allocInSame") (Some 13) (14 ∷ 15 ∷ [])
          ∷ SimpleName (at 0 4 42) (codes "a")
          ∷ FieldAccess (at 0 4 44) (codes "next") 17
          ∷ SimpleName (at 0 4 51) (codes "b")
          ∷ FieldAccess (at 0 4 53) (codes "next") 19
          ∷ Assign (at 0 4 49) 18 20
          ∷ If (at 0 4 5) 16 21 None
          ∷ Block (at 0 3 60) (22 ∷ [])
          ∷ Method (at 0 3 8) (codes "tie") None 3 (Some 12) (Some 23)
          ∷ Class (at 0 2 7) (codes "Link") None None (24 ∷ [])
          ∷ [];
      files = ((2 ∷ 25 ∷ []) ∷ []);
    }

of_its_field_uses : use_phase (declarations_of of_its_field) ≡ found E5 (at 0 4 49) ∷ []
unfolding computing
of_its_field_uses = refl

-- UNKNOWN on a field and on a result
abbrev pub misplaced : Forest
misplaced =
    record {
      nodes =
          ScopeName (at 0 2 10) (codes "UNKNOWN")
          ∷ Flags (at 0 2 3) None (Some 0) None false false false
          ∷ ClassType (at 0 2 19) (codes "Node") None false
          ∷ Field (at 0 2 24) (codes "next") (Some 1) 2 None None
          ∷ ScopeName (at 0 3 10) (codes "UNKNOWN")
          ∷ Flags (at 0 3 3) None (Some 4) None false false false
          ∷ ClassType (at 0 3 19) (codes "Node") None false
          ∷ Null (at 0 3 39)
          ∷ Return (at 0 3 32) (Some 7)
          ∷ Block (at 0 3 30) (8 ∷ [])
          ∷ Method (at 0 3 24) (codes "get") (Some 5) 6 None (Some 9)
          ∷ Class (at 0 1 7) (codes "Node") None None (3 ∷ 10 ∷ [])
          ∷ [];
      files = ((11 ∷ []) ∷ []);
    }

misplaced_uses : use_phase (declarations_of misplaced) ≡ found A1 (at 0 2 10) ∷ found A1 (at 0 3 10) ∷ []
unfolding computing
misplaced_uses = refl
