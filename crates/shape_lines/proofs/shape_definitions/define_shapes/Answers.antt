use Rattle.std.proofs.Common.{List, ◌≡◌, ◌+◌, ◌-◌, ap, ◌∙◌, map, length, take, drop, subst, refl}
use Rattle.std.specs.Prelude.{IfSome, slice_get, slice_set}
use Rattle.std.proofs.lemmas.List.{take_rest}
use Rattle.shape_types.specs.Builder.{redefined}
use Rattle.shape_types.specs.Shapes.{drafts_of, definition_of}
use Rattle.semantics_lines.specs.Shapes.{Definition}
use Rattle.semantics_lines.specs.ShapeText.{Scope, scope_of, definition_said}
use Rattle.shape_lines.specs.declared.shape_line.ShapeLine as declared
use Rattle.shape_lines.specs.declared.shape_line.ShapeLine.TheVariants as line
use Rattle.shape_lines.specs.ShapeLines.{shape_line, head_view}
use Rattle.shape_lines.proofs.Defining.{names_few, numbered_at, head_at}
use Rattle.shape_lines.proofs.shape_definitions.define_shapes.Goals as goal

pub definition-requires : goal.definition-requires
definition-requires c = names_few c.args.scope.names.now (map shape_line c.args.lines.now) (ap (λ (s : Scope). s.names) c.requires.scope) c.requires.good

pub define-requires-clause-named : goal.define-requires-clause-named
define-requires-clause-named c =
    (numbered_at (scope_of (map shape_line c.args.lines.now)) c.args.lines.now c.lines.at (line.Head c.in-Head.name c.in-Head.head) _ c.in-Head.name.now (head_view c.in-Head.head) (drafts_of c.lines.builder) c.lines.number c.lines-test.true c.in-Head.is refl c.lines.invariant).1

pub lines-preserved : goal.lines-preserved
lines-preserved c =
    let lines = c.args.lines.now in
    let at = c.lines.at in
    let scope = scope_of (map shape_line lines) in
    let head = head_view c.in-Head.head in
    let old = drafts_of c.lines.builder in
    let new = drafts_of c.define.new.self in
    let made : definition_of c.in_ok-def.def ≡ definition_said scope head (map shape_line (drop (at + 1) lines)) =
    c.in_ok-def.ensures ∙ ap (λ (s : Scope). definition_said s head (map shape_line (take (length lines - (at + 1)) (drop (at + 1) lines)))) c.requires.scope
    ∙ ap (λ (x : List declared.ShapeLine). definition_said scope head (map shape_line x)) (take_rest lines (at + 1)) in
    let set = subst (λ (x : Definition). IfSome (slice_get old c.lines.number) (λ draft. new ≡ slice_set old c.lines.number (redefined draft x))) made c.define.ensures in
    head_at scope lines at (line.Head c.in-Head.name c.in-Head.head) _ c.in-Head.name.now head old new c.lines.number c.lines-test.true c.in-Head.is refl set c.lines.invariant
