use Rattle.std.proofs.Common.{◌+◌, refl, sym, ap, ◌∙◌, map, take, drop, arith}
use Rattle.shape_lines.specs.declared.shape_line.ShapeLine.TheVariants as line
use Rattle.semantics_lines.specs.ShapeLines.{head_line}
use Rattle.shape_lines.specs.ShapeLines.{shape_line, head_view}
use Rattle.shape_lines.proofs.Defining.{all_at, length_at, count_head, count_other}
use Rattle.shape_lines.proofs.LineSteps.{no_head}
use Rattle.shape_lines.proofs.shape_definitions.line_of_shape.Goals as goal

pub lines-preserved-in_default : goal.lines-preserved-in_default
lines-preserved-in_default c = record {
  count = c.lines.invariant.count ∙ sym (count_other c.args.lines.now c.lines.at _ _ c.lines-test.true refl (no_head _ c.in_default.not-Head));
  below = c.lines.invariant.below;
}

pub returns-then-number-shape : goal.returns-then-number-shape
returns-then-number-shape c = record {
  before = map shape_line (take c.lines.at c.args.lines.now);
  here = head_line c.in-Head.name.now (head_view c.in-Head.head);
  after = map shape_line (drop (c.lines.at + 1) c.args.lines.now);
  are = all_at c.args.lines.now c.lines.at (line.Head c.in-Head.name c.in-Head.head) _ c.lines-test.true c.in-Head.is;
  head = refl;
  count = sym c.if-number-shape.true ∙ c.lines.invariant.count;
  at = ap (λ n. n + 1) (sym (length_at c.args.lines.now c.lines.at (omega (arith, c.lines-test.true))));
}

pub lines-preserved : goal.lines-preserved
lines-preserved c = record {
  count = omega (arith, c.lines.invariant.count, count_head c.args.lines.now c.lines.at (line.Head c.in-Head.name c.in-Head.head) _ c.in-Head.name.now (head_view c.in-Head.head) c.lines-test.true c.in-Head.is refl);
  below = omega (arith, c.lines.invariant.below, c.if-number-shape.false);
}
