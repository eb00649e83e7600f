-- The inner shape of a transparent one.
use Rattle.std.specs.Prelude.{ℕ, Option, Some, None}
use Rattle.semantics_lines.specs.Shapes.{Definition, transparent_shape}

abbrev pub transparent_of : Definition → Option ℕ
transparent_of (transparent_shape s) = Some s
transparent_of _ = None
