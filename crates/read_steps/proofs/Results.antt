-- Results: their keys, and their ends.
use Rattle.std.proofs.Common.{◌≡◌, Bool, Option, Some, None, true, false, refl, option_map}
use Rattle.semantics_lines.specs.Texts.{Phrase}
use Rattle.semantics_lines.specs.Trees.{Tree}
use Rattle.semantics_lines.specs.Events.{Metadata, Note, of_struct, of_sequence, Event, leaf, start, stop, span_of}
use Rattle.laws_reading.specs.Options.{outcome}
use Rattle.laws_reading.specs.Values.{Terms}
use Rattle.laws_machine.specs.Frames.{Frames, path}
use Rattle.laws_machine.specs.Delivery.{deliver}
use Rattle.laws_machine.specs.Steps.{close_step}
use Rattle.read_steps.specs.Stepping.{when}
use Rattle.semantics.specs.Reading.{by_outcome}
use Rattle.shape_types.specs.Texts.{phrase_of}
use Rattle.event_core.specs.Keys.{key_of, full_key, key_name}
use Rattle.event_core.specs.Metadata.{metadata_of}
use Rattle.event_core.specs.declared.key.FieldKey.{FieldKey}
use Rattle.event_core.specs.declared.key.FieldKey.TheVariants as keys
use Rattle.read_steps.specs.Fits.{named_side, ends_struct}

full_side : (o : Option Phrase) (m : Metadata) (n : Note) → by_outcome (full_key o m n) true false ≡ named_side o
full_side None m n = refl
full_side (Some t) m n = refl

pub side_named : (k : FieldKey) (n : Note) → by_outcome (key_of k n) true false ≡ named_side (key_name k)
side_named (keys.Name t) n = refl
side_named (keys.Full k) n = full_side (option_map phrase_of k.name) (metadata_of k.meta) n

-- the end behind what a result holds
pub close_is : (t : Terms) (b : Bool) (v : Tree) (fs : Frames) (e : Event) → close_step e t b v fs ≡ when (ends_struct e) (deliver fs (outcome b v)) (path t fs) (span_of e)
close_is t b v fs (leaf l) = refl
close_is t b v fs (start c k n) = refl
close_is t b v fs (stop of_struct n) = refl
close_is t b v fs (stop of_sequence n) = refl
