-- What the machine answers, in the words of the definitions.
use Rattle.std.proofs.Common.{nat_eq, ap, Ok, Err}
use Rattle.shape_types.specs.Shapes.{registry}
use Rattle.shape_types.specs.Trees.{tree_of}
use Rattle.laws_reading.specs.Values.{Terms}
use Rattle.format_read.specs.Deserializers.{describes_in, seat_in}
use Rattle.format_read.specs.Deserializing.{setting, IsRead, Answers, IsExact, IsCaused}
use Rattle.read_steps.specs.Stops.{told_stop}
use Rattle.format_read.proofs.Deserialize.{at_setting, is_read, answers_read, answers_stop, exact_read, exact_stop, keeps_read, keeps_stop, is_caused}
use Rattle.format_read.proofs.deserializer.FormatDeserializer.deserialize_value.Goals as goal

pub returns-in-Ok-clause-read : goal.returns-in-Ok-clause-read
returns-in-Ok-clause-read g c tells =
    let parsing = g.P.FormatParser.parsing in
    let now = c.args.self.now in
    let old = (seat_in parsing now).input in
    let new = (seat_in parsing c.read.new.self).input in
    let borrow = nat_eq g.row.BORROW 1 in
    let terms : Terms = record { setting = setting (registry c.shapes.result.now) borrow c.is_self_describing.result; limit = now.depth } in
    at_setting (λ s. IsRead s now.depth c.args.root.0 old new (tree_of c.in-Ok.value)) (registry c.shapes.result.now) (registry now.plans.now.shapes.now) borrow c.is_self_describing.result (describes_in parsing now)
    (ap (λ s. registry s.now) c.shapes.ensures) c.is_self_describing.ensures
    (is_read terms c.stopping_reads.ensures c.args.root.0 old new c.rules.ensures c.reading_means.ensures c.reads_typed.ensures (tree_of c.in-Ok.value) (c.in-Ok.ensures.exact tells))

pub returns-in-Ok-clause-answers : goal.returns-in-Ok-clause-answers
returns-in-Ok-clause-answers g c tells =
    let parsing = g.P.FormatParser.parsing in
    let now = c.args.self.now in
    let old = (seat_in parsing now).input in
    let new = (seat_in parsing c.read.new.self).input in
    let borrow = nat_eq g.row.BORROW 1 in
    let terms : Terms = record { setting = setting (registry c.shapes.result.now) borrow c.is_self_describing.result; limit = now.depth } in
    at_setting (λ s. Answers tree_of s now.depth c.args.root.0 old new (Ok c.in-Ok.value)) (registry c.shapes.result.now) (registry now.plans.now.shapes.now) borrow c.is_self_describing.result (describes_in parsing now)
    (ap (λ s. registry s.now) c.shapes.ensures) c.is_self_describing.ensures
    (answers_read terms c.stopping_reads.ensures c.args.root.0 old new tree_of c.reading_means.ensures c.in-Ok.value (c.in-Ok.ensures.exact tells))

pub returns-in-Ok-clause-exact : goal.returns-in-Ok-clause-exact
returns-in-Ok-clause-exact g c tells =
    let parsing = g.P.FormatParser.parsing in
    let now = c.args.self.now in
    let old = (seat_in parsing now).input in
    let new = (seat_in parsing c.read.new.self).input in
    let borrow = nat_eq g.row.BORROW 1 in
    let terms : Terms = record { setting = setting (registry c.shapes.result.now) borrow c.is_self_describing.result; limit = now.depth } in
    at_setting (λ s. IsExact tree_of s now.depth c.args.root.0 old new (Ok c.in-Ok.value)) (registry c.shapes.result.now) (registry now.plans.now.shapes.now) borrow c.is_self_describing.result (describes_in parsing now)
    (ap (λ s. registry s.now) c.shapes.ensures) c.is_self_describing.ensures
    (exact_read terms c.stopping_reads.ensures c.args.root.0 old new tree_of c.in-Ok.value (c.in-Ok.ensures.exact tells))

pub returns-in-Ok-clause-kept : goal.returns-in-Ok-clause-kept
returns-in-Ok-clause-kept g c tells =
    let parsing = g.P.FormatParser.parsing in
    let now = c.args.self.now in
    let old = (seat_in parsing now).input in
    let new = (seat_in parsing c.read.new.self).input in
    let borrow = nat_eq g.row.BORROW 1 in
    let terms : Terms = record { setting = setting (registry c.shapes.result.now) borrow c.is_self_describing.result; limit = now.depth } in
    keeps_read terms terms.limit c.args.root.0 old new (tree_of c.in-Ok.value) (c.in-Ok.ensures.exact tells)

pub returns-in-Err-clause-answers : goal.returns-in-Err-clause-answers
returns-in-Err-clause-answers g c tells =
    let parsing = g.P.FormatParser.parsing in
    let now = c.args.self.now in
    let old = (seat_in parsing now).input in
    let new = (seat_in parsing c.read.new.self).input in
    let borrow = nat_eq g.row.BORROW 1 in
    let terms : Terms = record { setting = setting (registry c.shapes.result.now) borrow c.is_self_describing.result; limit = now.depth } in
    at_setting (λ s. Answers tree_of s now.depth c.args.root.0 old new (Err c.error_of.result)) (registry c.shapes.result.now) (registry now.plans.now.shapes.now) borrow c.is_self_describing.result (describes_in parsing now)
    (ap (λ s. registry s.now) c.shapes.ensures) c.is_self_describing.ensures
    (answers_stop terms c.stopping_reads.ensures c.args.root.0 old new tree_of c.reading_means.ensures (told_stop c.in-Err.stop) c.error_of.result (c.in-Err.ensures.exact tells) c.error_of.ensures.error)

pub returns-in-Err-clause-exact : goal.returns-in-Err-clause-exact
returns-in-Err-clause-exact g c tells =
    let parsing = g.P.FormatParser.parsing in
    let now = c.args.self.now in
    let old = (seat_in parsing now).input in
    let new = (seat_in parsing c.read.new.self).input in
    let borrow = nat_eq g.row.BORROW 1 in
    let terms : Terms = record { setting = setting (registry c.shapes.result.now) borrow c.is_self_describing.result; limit = now.depth } in
    at_setting (λ s. IsExact tree_of s now.depth c.args.root.0 old new (Err c.error_of.result)) (registry c.shapes.result.now) (registry now.plans.now.shapes.now) borrow c.is_self_describing.result (describes_in parsing now)
    (ap (λ s. registry s.now) c.shapes.ensures) c.is_self_describing.ensures
    (exact_stop terms c.stopping_reads.ensures c.args.root.0 old new tree_of (told_stop c.in-Err.stop) c.error_of.result (c.in-Err.ensures.exact tells) c.error_of.ensures.error)

pub returns-in-Err-clause-kept : goal.returns-in-Err-clause-kept
returns-in-Err-clause-kept g c tells =
    let parsing = g.P.FormatParser.parsing in
    let now = c.args.self.now in
    let old = (seat_in parsing now).input in
    let new = (seat_in parsing c.read.new.self).input in
    let borrow = nat_eq g.row.BORROW 1 in
    let terms : Terms = record { setting = setting (registry c.shapes.result.now) borrow c.is_self_describing.result; limit = now.depth } in
    keeps_stop terms terms.limit c.args.root.0 old new (told_stop c.in-Err.stop) c.error_of.result (c.in-Err.ensures.exact tells) c.error_of.ensures.error

pub returns-in-Err-clause-caused : goal.returns-in-Err-clause-caused
returns-in-Err-clause-caused g c tells =
    let parsing = g.P.FormatParser.parsing in
    let now = c.args.self.now in
    let old = (seat_in parsing now).input in
    let new = (seat_in parsing c.read.new.self).input in
    let borrow = nat_eq g.row.BORROW 1 in
    let terms : Terms = record { setting = setting (registry c.shapes.result.now) borrow c.is_self_describing.result; limit = now.depth } in
    at_setting (λ s. IsCaused s now.depth c.args.root.0 old new c.error_of.result) (registry c.shapes.result.now) (registry now.plans.now.shapes.now) borrow c.is_self_describing.result (describes_in parsing now)
    (ap (λ s. registry s.now) c.shapes.ensures) c.is_self_describing.ensures
    (is_caused terms c.stopping_reads.ensures c.args.root.0 old new c.rules.ensures c.stopping_fails.ensures (told_stop c.in-Err.stop) c.error_of.result (c.in-Err.ensures.exact tells) c.error_of.ensures.error)
