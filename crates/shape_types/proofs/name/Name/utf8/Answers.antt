use Rattle.std.proofs.lemmas.Str.{IsUtf8-string_bytes, is_utf8-from_IsUtf8}
use Rattle.shape_types.proofs.name.Name.utf8.Goals as goal

pub returns : goal.returns
returns c = rw (← c.self.view_is) (is_utf8-from_IsUtf8 _ (IsUtf8-string_bytes c.self.inside.text))
