-- Places of lines, as the definitions see them.
use Rattle.semantics_lines.specs.ShapeText as mirror
use Rattle.shape_lines.specs.declared.shape_place.Place.{Place}
use Rattle.shape_lines.specs.ShapeLines.{body_view}

abbrev pub place_view : Place → mirror.Place
place_view p = record { body = body_view p.body; variants = p.variants }
