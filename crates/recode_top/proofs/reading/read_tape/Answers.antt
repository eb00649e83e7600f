use Rattle.std.proofs.Common.{◌≡◌, ℕ, ap, ◌∙◌, subst}
use Rattle.semantics_lines.specs.Shapes.{Registry}
use Rattle.semantics.specs.Recoding.{tape_setting}
use Rattle.shape_types.specs.Shapes.{registry}
use Rattle.laws_reading.specs.Input.{Input}
use Rattle.tape_text.specs.Parser.{parsing_of}
use Rattle.format_read.specs.Deserializers.{owner_of, seat_in}
use Rattle.recode_top.specs.Recode.{FindsAlone}
use Rattle.recode_top.proofs.Alone.{is_told}
use Rattle.recode_top.proofs.reading.read_tape.Goals as goal

pub returns-clause-found : goal.returns-clause-found
returns-clause-found c =
    let reader = c.with_buffer_capacity-reader.result in
    let made = c.with_buffer_capacity-reader.ensures in
    let shapes : registry reader.plans.now.shapes.now ≡ registry c.args.shapes.now = ap (λ p. registry p.now.shapes.now) made.plans ∙ ap (λ b. registry b.now) c.in-Ok.ensures in
    let input = is_told reader.parser.now (owner_of reader) reader.queue reader.last c.args.input.now c.args.capacity (made.parser ∙ c.new-parser.ensures) made.queue made.last in
    subst (λ (i : Input). FindsAlone (tape_setting (registry c.args.shapes.now)) c.args.root.0 c.args.depth i c.read_alone.result) input
    (subst (λ (n : ℕ). FindsAlone (tape_setting (registry c.args.shapes.now)) c.args.root.0 n (seat_in parsing_of reader).input c.read_alone.result) made.depth
    (subst (λ (g : Registry). FindsAlone (tape_setting g) c.args.root.0 reader.depth (seat_in parsing_of reader).input c.read_alone.result) shapes c.read_alone.ensures.found))
