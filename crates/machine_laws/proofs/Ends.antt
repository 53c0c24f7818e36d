-- The end of a file stands nowhere but behind its classes.
use Rattle.std.proofs.Common.{◌≡◌, ℕ, Bool, true, false, List, [], ◌∷◌, Option, None, nat_lt, refl, arith}
use Rattle.std.proofs.lemmas.Bool.Decides.{nat_tests}
use Rattle.parser_machine.specs.Blocks.{first_start, statement_start, statements_step, target_start}
use Rattle.parser_machine.specs.Closing.{admits, argument_ended, assigned, closed, ended, operation, target_ended}
use Rattle.parser_machine.specs.Declarations.{at_step, class_start, declaration_start, flags_ended, flags_step, member_start, plain_without, type_start, typed}
use Rattle.parser_machine.specs.Files.{super_ended}
use Rattle.parser_machine.specs.Members.{is_else, member_ended, members_step, statement_ended}
use Rattle.parser_machine.specs.Operands.{operand_start, post_ended, post_step, text_step}
use Rattle.parser_machine.specs.States.{level_of}
use Rattle.parser_machine.specs.declared.entries.Entry.{Entry}
use Rattle.parser_machine.specs.declared.entries.Entry.TheVariants.{AnnotationOpen, ArgumentsOpen, AssignValue, BinaryLeft, BlockOpen, CastOpen, ClassBody, CompoundValue, ConstructorBody, FileOpen, ForBody, ForHead, ForStep, ForTest, GroupOpen, IfElse, IfTest, IfThen, IndexOpen, LengthOpen, LocalOpen, LocalValue, MemberOpen, MethodBody, ParameterOpen, ParametersOpen, ReturnValue, Simple, SupersOpen, Target, UnaryOpen, WhileBody, WhileTest}
use Rattle.scj_base.specs.declared.positions.Position.{Position}
use Rattle.scj_tree.specs.Lexemes.{the_end}
use Rattle.scj_tree.specs.Terminals.{flags_number, level, with_flags}
use Rattle.scj_tree.specs.declared.nodes.Node.{Node}
use Rattle.scj_tree.specs.declared.parsed_parts.FlagSet.{FlagSet}
use Rattle.scj_tree.specs.declared.parsed_parts.PostKind.{PostKind}

end_assigned : (id : ℕ) (N : List Node) (s : List Entry) (p : Position) → assigned id N s (the_end p) ≡ None
unfolding assigned
end_assigned id N [] p = refl
end_assigned id N (Simple ∷ s) p = refl
end_assigned id N (ForHead q ∷ s) p = refl
end_assigned id N (ForStep q f c ∷ s) p = refl
end_assigned id N (_ ∷ s) p = refl

end_ended : (e : Entry) (id : ℕ) (N : List Node) (s : List Entry) (p : Position) → ended e id N s (the_end p) ≡ None
unfolding ended argument_ended
end_ended (AssignValue q t) id N s p = end_assigned _ _ s p
end_ended (CompoundValue q op t l) id N s p = end_assigned _ _ s p
end_ended (LocalValue q r w f t) id N s p = end_assigned _ _ s p
end_ended (ArgumentsOpen ids) id N s p = refl
end_ended (GroupOpen q) id N s p = refl
end_ended (IndexOpen q a) id N s p = refl
end_ended (LengthOpen q a) id N s p = refl
end_ended (ForTest q a) id N s p = refl
end_ended (IfTest q) id N s p = refl
end_ended (WhileTest q) id N s p = refl
end_ended (ReturnValue q) id N s p = refl
end_ended _ id N s p = refl

none_below : (n : ℕ) → nat_lt n 0 ≡ false
none_below n = grind (arith, nat_tests)

end_closed : (id : ℕ) (N : List Node) (s : List Entry) (p : Position) → closed id N s (the_end p) ≡ None
unfolding closed admits operation level_of
end_closed id N [] p = refl
end_closed id N (BinaryLeft q op l ∷ s) p = rw (none_below (level op)) (end_closed _ _ s p)
end_closed id N (UnaryOpen q op ∷ s) p = end_closed _ _ s p
end_closed id N (CastOpen q r w ∷ s) p = end_closed _ _ s p
end_closed id N (Target ∷ s) p = end_ended Target id N s p
end_closed id N (_ ∷ s) p = end_ended _ id N s p

pub end_post : (kind : PostKind) (q : Position) (id : ℕ) (N : List Node) (s : List Entry) (p : Position) →
    post_step kind q id N s (the_end p) ≡ None
unfolding post_step post_ended target_ended
end_post kind q id N [] p = end_closed id N [] p
end_post kind q id N (Target ∷ s) p = refl
end_post kind q id N (_ ∷ s) p = end_closed id N _ p

end_declaration : (f : Option ℕ) (N : List Node) (s : List Entry) (p : Position) → declaration_start f N s (the_end p) ≡ None
unfolding declaration_start class_start member_start type_start
end_declaration f N [] p = refl
end_declaration f N (FileOpen classes ∷ s) p = refl
end_declaration f N (ClassBody g q w h ids ∷ s) p = refl
end_declaration f N (ParametersOpen q ids ∷ s) p = refl
end_declaration f N (Simple ∷ s) p = refl
end_declaration f N (_ ∷ s) p = refl

pub end_flags : (is_local : Bool) (flags : FlagSet) (N : List Node) (s : List Entry) (p : Position) →
    flags_step is_local flags N s (the_end p) ≡ None
unfolding flags_step flags_ended
end_flags is_local flags N s p = end_declaration (flags_number N flags) (with_flags N flags) s p

pub end_at : (q : Position) (N : List Node) (s : List Entry) (p : Position) → at_step q N s (the_end p) ≡ None
unfolding at_step
end_at q N [] p = refl
end_at q N (AnnotationOpen l f ∷ s) p = refl
end_at q N (_ ∷ s) p = refl

pub end_plain : (N : List Node) (s : List Entry) (p : Position) → plain_without N s (the_end p) ≡ None
unfolding plain_without
end_plain N [] p = refl
end_plain N (AnnotationOpen l f ∷ s) p = end_flags l f N s p
end_plain N (_ ∷ s) p = refl

pub end_typed : (t : ℕ) (N : List Node) (s : List Entry) (p : Position) → typed t N s (the_end p) ≡ None
unfolding typed
end_typed t N [] p = refl
end_typed t N (MemberOpen f ∷ s) p = refl
end_typed t N (ParameterOpen f ∷ s) p = refl
end_typed t N (LocalOpen f ∷ s) p = refl
end_typed t N (_ ∷ s) p = refl

pub end_super : (id : ℕ) (N : List Node) (s : List Entry) (p : Position) → super_ended id N s (the_end p) ≡ None
unfolding super_ended
end_super id N [] p = refl
end_super id N (SupersOpen q true c ids ∷ s) p = refl
end_super id N (SupersOpen q false c ids ∷ s) p = refl
end_super id N (_ ∷ s) p = refl

pub end_text : (id : ℕ) (N : List Node) (s : List Entry) (p : Position) → text_step id N s (the_end p) ≡ None
unfolding text_step argument_ended
end_text id N [] p = refl
end_text id N (ArgumentsOpen ids ∷ s) p = refl
end_text id N (_ ∷ s) p = refl

end_member : (id : ℕ) (N : List Node) (s : List Entry) (p : Position) → member_ended id N s (the_end p) ≡ None
unfolding member_ended members_step
end_member id N [] p = refl
end_member id N (ClassBody f q w h ids ∷ s) p = end_flags _ _ N _ p
end_member id N (_ ∷ s) p = refl

pub end_statement : (id : ℕ) (N : List Node) (s : List Entry) (p : Position) → statement_ended id N s (the_end p) ≡ None
unfolding statement_ended is_else statements_step statement_start first_start target_start operand_start
end_statement id N [] p = refl
end_statement id N (BlockOpen q ids ∷ s) p = refl
end_statement id N (IfThen q c ∷ s) p = end_statement _ _ s p
end_statement id N (IfElse q c a ∷ s) p = end_statement _ _ s p
end_statement id N (WhileBody q c ∷ s) p = end_statement _ _ s p
end_statement id N (ForBody q f c u ∷ s) p = end_statement _ _ s p
end_statement id N (MethodBody f r q w ps ∷ s) p = end_member _ _ s p
end_statement id N (ConstructorBody f q w ps c ∷ s) p = end_member _ _ s p
end_statement id N (_ ∷ s) p = refl

pub end_assign : (id : ℕ) (N : List Node) (s : List Entry) (p : Position) → assigned id N s (the_end p) ≡ None
end_assign = end_assigned
