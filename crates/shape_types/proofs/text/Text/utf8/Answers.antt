use Rattle.std.proofs.lemmas.Str.{is_utf8-from_IsUtf8}
use Rattle.shape_types.proofs.text.Text.utf8.Goals as goal

pub returns : goal.returns
returns c = rw (← c.as_str.ensures) (is_utf8-from_IsUtf8 _ c.as_str.utf8)
