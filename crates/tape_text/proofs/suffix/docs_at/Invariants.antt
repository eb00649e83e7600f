use Rattle.std.proofs.Common.{map, length}
use Rattle.shape_types.specs.Texts.{phrase_of}
use Rattle.tape_text.proofs.Suffixes.{ReadDocs}
use Rattle.tape_text.proofs.suffix.docs_at.Given as goal

abbrev pub invariant-docs : goal.invariant-docs
invariant-docs l = ReadDocs l.text l.rest (map phrase_of l.docs)

abbrev pub decreases-docs : goal.decreases-docs
decreases-docs l = length l.rest
