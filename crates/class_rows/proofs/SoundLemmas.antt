-- The rows of the classes, and the nodes of which they tell.
pub use Rattle.class_headers.proofs.SoundLemmas.{IsSound, row_sound, members_of, methods_of, class_at_node, first_methods, other_methods, framework_there}
