use Rattle.scj_model.specs.Code.{code_of}
use Rattle.memory_needs.proofs.Forms.{stored_formed}
use Rattle.memory_needs.proofs.store.release_bytes.Goals as goal

pub storage-requires : goal.storage-requires
storage-requires c =
    let s = c.requires.formed.stored c.args.class c.requires.listed in
    stored_formed (code_of c.args.code.now).program c.args.class s.0 s.1
