-- One more entry of a table, and the members that a table stands for.
use Rattle.std.proofs.Common.{◌≡◌, ◌∙◌, List, [], ◌∷◌, String, Global, Ordering, Less, Equal, Greater, string_bytes, refl}
use Rattle.std.specs.BTreeMap.{insert_entry}
use Rattle.std.specs.Ordering.{match_ordering}
use Rattle.std.specs.String.{string_cmp}
use Rattle.toml.proofs.Views.{Entry}
use Rattle.toml.specs.View.{members_view, view}
use Rattle.toml.specs.declared.value.Value.{Value}
use Rattle.run_plan.specs.NewTable.{with_member}

match_members : (o : Ordering) (a b c : List Entry) → members_view (match_ordering o a b c) ≡ match_ordering o (members_view a) (members_view b) (members_view c)
match_members Less a b c = refl
match_members Equal a b c = refl
match_members Greater a b c = refl

pub entry_put : (entries : List Entry) (key : String Global) (value : Value) → members_view (insert_entry string_cmp entries key value) ≡ with_member (string_bytes key) (view value) (members_view entries)
entry_put [] key value = refl
entry_put (entry ∷ entries) key value = match_members (string_cmp key entry.0) _ _ _ ∙ rw (entry_put entries key value) refl
