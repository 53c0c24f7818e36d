-- What is read of headers, types and flags has fitting words and places.
use Rattle.std.proofs.Common.{◌≡◌, ap, not, ◌&&◌, ◌==◌, if◌then◌else◌, true, false, refl, sym, ◌∙◌, Option, Some, None}
use Rattle.std.specs.Prelude.{ℕ, Bool, List, Option}
use Rattle.scj_base.specs.Vocabulary.{word_abstract, word_final, word_private, word_protected, word_public, word_static, word_synchronized}
use Rattle.scj_base.specs.declared.positions.Position.{Position}
use Rattle.scj_tree.specs.declared.nodes.Node.{Node}
use Rattle.scj_tree.specs.declared.parsed_parts.FlagSet.{FlagSet}
use Rattle.scj_tree.specs.Lexemes.{Lexeme}
use Rattle.scj_tree.specs.Headers.{Dotted, dotted_name, dotted_longer, Imported, imported_name, imported_all, Imports, no_imports, plain_import, static_import, PlainValue, plain_text, plain_dotted, plain_true, plain_false, PlainPair, value_alone, named_value, PlainPairs, last_pair, more_pairs, PlainArguments, no_parentheses, empty_parentheses, pairs_in_parentheses, ScopeValue, quoted_scope, bare_scope, qualified_scope, FlagRow, no_flag, modifier, effectless, scope_flag, runs_in_flag, define_scope_flag, define_scope_flag_parent_first, TypeRead, int_type, int_array, boolean_type, boolean_array, class_type, class_array, argument_type, argument_array, ResultRead, typed_result, void_result, long_result, ParameterRead, parameter, ParametersBegun, no_parameter_yet, parameter_and_comma, ParametersRead, no_parameters, parameters, SuperRead, super_type, super_type_with_argument, InterfacesBegun, no_interface_yet, interface_and_comma, HeaderRead, no_header, extends_header, implements_header, extends_implements_header}
use Rattle.scj_tree.specs.Shape.{position_of}
use Rattle.scj_tree.specs.Terminals.{add_modifier, unless_there, with_modifier, with_define_scope, with_runs_in, with_scope}
use Rattle.source_nodes.specs.Nodes.{HasWords}
use Rattle.source_nodes.proofs.Fits.{Fine, FlagsFit, behind, behind2, behind3, fine_flags, fine_put, flags_placed}

dotted_fine : {Q : Position → Type 0} {N : List Node} {i o : List Lexeme} → Dotted i o → Fine Q N i → Fine Q N o
dotted_fine dotted_name f = behind f
dotted_fine (dotted_longer d) f = dotted_fine d (behind2 f)

imported_fine : {Q : Position → Type 0} {N : List Node} {i o : List Lexeme} → Imported i o → Fine Q N i → Fine Q N o
imported_fine (imported_name d) f = dotted_fine d f
imported_fine (imported_all d) f = behind2 (dotted_fine d f)

pub imports_fine : {Q : Position → Type 0} {N : List Node} {i o : List Lexeme} → Imports i o → Fine Q N i → Fine Q N o
imports_fine no_imports f = f
imports_fine (plain_import d e) f = imports_fine e (behind (imported_fine d (behind f)))
imports_fine (static_import d e) f = imports_fine e (behind (imported_fine d (behind2 f)))

pub package_fine : {Q : Position → Type 0} {N : List Node} {i o : List Lexeme} → Dotted i o → Fine Q N i → Fine Q N o
package_fine d f = dotted_fine d f

plain_value_fine : {Q : Position → Type 0} {N : List Node} {i o : List Lexeme} → PlainValue i o → Fine Q N i → Fine Q N o
plain_value_fine plain_text f = behind f
plain_value_fine (plain_dotted d) f = dotted_fine d f
plain_value_fine plain_true f = behind f
plain_value_fine plain_false f = behind f

plain_pair_fine : {Q : Position → Type 0} {N : List Node} {i o : List Lexeme} → PlainPair i o → Fine Q N i → Fine Q N o
plain_pair_fine (value_alone d) f = plain_value_fine d f
plain_pair_fine (named_value d) f = plain_value_fine d (behind2 f)

plain_pairs_fine : {Q : Position → Type 0} {N : List Node} {i o : List Lexeme} → PlainPairs i o → Fine Q N i → Fine Q N o
plain_pairs_fine (last_pair d) f = behind (plain_pair_fine d f)
plain_pairs_fine (more_pairs d e) f = plain_pairs_fine e (behind (plain_pair_fine d f))

plain_arguments_fine : {Q : Position → Type 0} {N : List Node} {i o : List Lexeme} → PlainArguments i o → Fine Q N i →
    Fine Q N o
plain_arguments_fine no_parentheses f = f
plain_arguments_fine empty_parentheses f = behind2 f
plain_arguments_fine (pairs_in_parentheses d) f = plain_pairs_fine d (behind f)

value_fine : {Q : Position → Type 0} {N N1 : List Node} {i o : List Lexeme} {id : ℕ} → ScopeValue N i N1 o id → Fine Q N i →
    Fine Q N1 o
unfolding position_of HasWords
value_fine (quoted_scope h) f = fine_put _ (record { place = f.lexemes.0.0; words = tt }) (behind f)
value_fine bare_scope f = fine_put _ (record { place = f.lexemes.0.0; words = tt }) (behind f)
value_fine qualified_scope f = fine_put _ (record { place = f.lexemes.0.0; words = tt }) (behind3 f)

-- a modifier leaves the place
unless_place : (b : Bool) (flags next more : FlagSet) → next.position ≡ flags.position → unless_there b next ≡ Some more →
    more.position ≡ flags.position
unless_place true flags next more e h = absurd (cc (h))
unless_place false flags next more e h = ap (λ (o : Option FlagSet). place_or flags o) (sym h) ∙ e
  where
    place_or : FlagSet → Option FlagSet → Option Position
    place_or flags o = elim o [ None ↦ flags.position | Some x ↦ x.position ]

if_place : (b : Bool) (x y : Option FlagSet) (flags more : FlagSet) → (x ≡ Some more → more.position ≡ flags.position) →
    (y ≡ Some more → more.position ≡ flags.position) → (if b then x else y) ≡ Some more → more.position ≡ flags.position
if_place true x y flags more h k e = h e
if_place false x y flags more h k e = k e

modifier_position : (is_local : Bool) (w : ℕ) (flags more : FlagSet) → add_modifier is_local w flags ≡ Some more →
    more.position ≡ flags.position
unfolding add_modifier with_modifier
modifier_position is_local w flags more h =
    if_place (is_local && not (w == word_final)) None _ flags more (λ e. absurd (cc (e)))
    (if_place (w == word_public) _ _ flags more (unless_place flags.is_public flags _ more refl)
    (if_place (w == word_protected) _ _ flags more (unless_place flags.is_protected flags _ more refl)
    (if_place (w == word_private) _ _ flags more (unless_place flags.is_private flags _ more refl)
    (if_place (w == word_static) _ _ flags more (unless_place flags.is_static flags _ more refl)
    (if_place (w == word_final) _ _ flags more (unless_place flags.is_final flags _ more refl)
    (if_place (w == word_abstract) _ _ flags more (unless_place flags.is_abstract flags _ more refl)
    (if_place (w == word_synchronized) _ _ flags more (unless_place flags.is_synchronized flags _ more refl)
    (λ e. absurd (cc (e)))))))))) h

-- a row of flags
pub record RowFine (Q : Position → Type 0) (N : List Node) (o : List Lexeme) (flags : FlagSet) : Type 0 where
  pub fine : Fine Q N o
  pub fit : FlagsFit Q flags

flags_same : {Q : Position → Type 0} (flags more : FlagSet) → more.position ≡ flags.position → FlagsFit Q flags → FlagsFit Q more
flags_same flags more e f = record { place = λ p h. f.place p (sym e ∙ h) }

modifier_fits : {Q : Position → Type 0} (is_local : Bool) (w : ℕ) (flags more : FlagSet) →
    add_modifier is_local w flags ≡ Some more → FlagsFit Q flags → FlagsFit Q more
modifier_fits is_local w flags more h f = flags_same flags more (modifier_position is_local w flags more h) f

pub row_fine : {Q : Position → Type 0} {is_local : Bool} {N N1 : List Node} {i o : List Lexeme} {flags : FlagSet} →
    FlagRow is_local N i N1 o flags → Fine Q N i → RowFine Q N1 o flags
unfolding position_of HasWords with_scope with_runs_in with_define_scope
row_fine no_flag f = record { fine = f; fit = record { place = λ p e. absurd (cc (e)) } }
row_fine {is_local = is_local} (modifier {flags = flags} {more = more} {w = w} {p = p} d h) f =
    let r = row_fine d f in
    record {
      fine = behind r.fine;
      fit = flags_placed p more r.fine.lexemes.0 (modifier_fits is_local w flags more h r.fit);
    }
row_fine (effectless {flags = flags} {p = p} d h e) f =
    let r = row_fine d f in
    record { fine = plain_arguments_fine e (behind2 r.fine); fit = flags_placed p flags r.fine.lexemes.0 r.fit }
row_fine (scope_flag {flags = flags} {p = p} d h v) f =
    let r = row_fine d f in
    let g = flags_placed p flags r.fine.lexemes.0 r.fit in
    record { fine = behind (value_fine v (behind3 r.fine)); fit = record { place = g.place } }
row_fine (runs_in_flag {flags = flags} {p = p} d h v) f =
    let r = row_fine d f in
    let g = flags_placed p flags r.fine.lexemes.0 r.fit in
    record { fine = behind (value_fine v (behind3 r.fine)); fit = record { place = g.place } }
row_fine (define_scope_flag {flags = flags} {p = p} d h v w) f =
    let r = row_fine d f in
    let g = flags_placed p flags r.fine.lexemes.0 r.fit in
    record {
      fine = fine_put _ (record { place = r.fine.lexemes.0; words = tt })
          (behind (value_fine w (behind3 (value_fine v (behind2 (behind3 r.fine))))));
      fit = record { place = g.place };
    }
row_fine (define_scope_flag_parent_first {flags = flags} {p = p} d h v w) f =
    let r = row_fine d f in
    let g = flags_placed p flags r.fine.lexemes.0 r.fit in
    record {
      fine = fine_put _ (record { place = r.fine.lexemes.0; words = tt })
          (behind (value_fine w (behind3 (value_fine v (behind2 (behind3 r.fine))))));
      fit = record { place = g.place };
    }

pub type_fine : {Q : Position → Type 0} {N N1 : List Node} {i o : List Lexeme} {id : ℕ} → TypeRead N i N1 o id →
    Fine Q N i → Fine Q N1 o
unfolding position_of HasWords
type_fine int_type f = fine_put _ (record { place = f.lexemes.0; words = tt }) (behind f)
type_fine int_array f = fine_put _ (record { place = f.lexemes.0; words = tt }) (behind3 f)
type_fine boolean_type f = fine_put _ (record { place = f.lexemes.0; words = tt }) (behind f)
type_fine boolean_array f = fine_put _ (record { place = f.lexemes.0; words = tt }) (behind3 f)
type_fine class_type f = fine_put _ (record { place = f.lexemes.0.0; words = tt }) (behind f)
type_fine class_array f = fine_put _ (record { place = f.lexemes.0.0; words = tt }) (behind3 f)
type_fine (argument_type h) f =
    fine_put _ (record { place = f.lexemes.0.0; words = tt })
    (fine_put _ (record { place = (behind2 f).lexemes.0.0; words = tt }) (behind (behind3 f)))
type_fine (argument_array h) f =
    fine_put _ (record { place = f.lexemes.0.0; words = tt })
    (fine_put _ (record { place = (behind2 f).lexemes.0.0; words = tt }) (behind3 (behind3 f)))

pub result_fine : {Q : Position → Type 0} {N N1 : List Node} {i o : List Lexeme} {id : ℕ} → ResultRead N i N1 o id →
    Fine Q N i → Fine Q N1 o
unfolding position_of HasWords
result_fine (typed_result d) f = type_fine d f
result_fine void_result f = fine_put _ (record { place = f.lexemes.0; words = tt }) (behind f)
result_fine long_result f = fine_put _ (record { place = f.lexemes.0; words = tt }) (behind f)

parameter_fine : {Q : Position → Type 0} {N N1 : List Node} {i o : List Lexeme} {id : ℕ} → ParameterRead N i N1 o id →
    Fine Q N i → Fine Q N1 o
unfolding position_of HasWords
parameter_fine (parameter {flags = flags} d e) f =
    let r = row_fine d f in
    let g = type_fine e (fine_flags flags r.fit r.fine) in
    fine_put _ (record { place = g.lexemes.0.0; words = tt }) (behind g)

parameters_begun_fine : {Q : Position → Type 0} {N N1 : List Node} {i o : List Lexeme} {ids : List ℕ} →
    ParametersBegun N i N1 o ids → Fine Q N i → Fine Q N1 o
parameters_begun_fine no_parameter_yet f = f
parameters_begun_fine (parameter_and_comma d e) f = behind (parameter_fine e (parameters_begun_fine d f))

pub parameters_fine : {Q : Position → Type 0} {N N1 : List Node} {i o : List Lexeme} {id : Option ℕ} →
    ParametersRead N i N1 o id → Fine Q N i → Fine Q N1 o
unfolding position_of HasWords
parameters_fine no_parameters f = behind2 f
parameters_fine (parameters d e) f =
    fine_put _ (record { place = f.lexemes.0; words = tt })
    (behind (parameter_fine e (parameters_begun_fine d (behind f))))

super_fine : {Q : Position → Type 0} {N N1 : List Node} {i o : List Lexeme} {id : ℕ} → SuperRead N i N1 o id →
    Fine Q N i → Fine Q N1 o
unfolding position_of HasWords
super_fine super_type f = fine_put _ (record { place = f.lexemes.0.0; words = tt }) (behind f)
super_fine (super_type_with_argument h) f =
    fine_put _ (record { place = f.lexemes.0.0; words = tt })
    (fine_put _ (record { place = (behind2 f).lexemes.0.0; words = tt }) (behind (behind3 f)))

interfaces_fine : {Q : Position → Type 0} {N N1 : List Node} {i o : List Lexeme} {ids : List ℕ} →
    InterfacesBegun N i N1 o ids → Fine Q N i → Fine Q N1 o
interfaces_fine no_interface_yet f = f
interfaces_fine (interface_and_comma d e) f = behind (super_fine e (interfaces_fine d f))

pub header_fine : {Q : Position → Type 0} {N N1 : List Node} {i o : List Lexeme} {id : Option ℕ} → HeaderRead N i N1 o id →
    Fine Q N i → Fine Q N1 o
unfolding position_of HasWords
header_fine no_header f = behind f
header_fine (extends_header d) f =
    fine_put _ (record { place = f.lexemes.0; words = tt }) (behind (super_fine d (behind f)))
header_fine (implements_header d e) f =
    fine_put _ (record { place = f.lexemes.0; words = tt }) (behind (super_fine e (interfaces_fine d (behind f))))
header_fine (extends_implements_header d e g) f =
    fine_put _ (record { place = f.lexemes.0; words = tt })
    (behind (super_fine g (interfaces_fine e (behind (super_fine d (behind f))))))
