-- The reader of events, and the meaning of runs, for all shapes.
use Rattle.std.proofs.Common.{ℕ, zero, suc, [], Option, Some, None, Bool, true, false, cond}
use Rattle.semantics_lines.specs.Shapes.{is_tuple, StructShape, Definition, scalar_shape, option_shape, result_shape, list_shape, array_shape, set_shape, map_shape, struct_shape, enum_shape, transparent_shape, definition_at}
use Rattle.semantics.specs.Runs.{Run}
use Rattle.semantics_lines.specs.Trees.{Tree}
use Rattle.semantics.specs.Labels.{label_at}
use Rattle.semantics.specs.Reading.{Source, from_events, Reader, part_value, read_object, read_struct, plain_layout, read_tuple, read_as, read_shape, read}
use Rattle.laws_reading.specs.Input.{refused_at}
use Rattle.laws_reading.specs.Structs.{ReadsPart, end_at}
use Rattle.laws_reading.specs.Values.{Terms, target_of, struct_as, value_as, value_at, reading}
use Rattle.laws_reading.specs.Laws.{Sound, Complete, Refuses}
use Rattle.laws_reading.proofs.Steps.{refuses, refused_sound}
use Rattle.laws_reading.proofs.Nodes.{scalar_sound, scalar_complete}
use Rattle.laws_reading.proofs.Options.{option_sound, option_complete}
use Rattle.laws_reading.proofs.Results.{result_sound, result_complete}
use Rattle.laws_reading.proofs.Sequences.{sequence_sound, sequence_complete}
use Rattle.laws_reading.proofs.Tuples.{tuple_sound, tuple_complete}
use Rattle.laws_reading.proofs.Structs.{ends_sound, ends_complete, struct_sound, struct_complete}

module _ (terms : Terms) (rd : Reader) (at : ReadsPart) (s : ℕ) (source : Source) where
  -- a struct is read as a tuple, or as an object
  abbrev WhichStruct : StructShape → Bool → (Run → Option Tree)
  WhichStruct d b r = cond b (read_tuple terms.setting rd d r) (read_object (read_struct terms.setting rd [] d.deny (plain_layout d)) r)

  step_sound : ((s : ℕ) (source : Source) → Sound (rd s source) (at s source)) → (d : Definition) → Sound (λ r. read_as terms.setting rd s source d r) (value_as terms at s source d)
  step_sound sound (scalar_shape t) = scalar_sound (target_of terms s t)
  step_sound sound (option_shape i) = option_sound (rd i from_events) (at i from_events) (sound i from_events)
  step_sound sound (result_shape i j) = result_sound rd at i j sound
  step_sound sound (list_shape i) = sequence_sound (rd i from_events) (at i from_events) (record { shape = label_at terms.setting.registry s; len = None }) (sound i from_events)
  step_sound sound (array_shape i len) = sequence_sound (rd i from_events) (at i from_events) (record { shape = label_at terms.setting.registry s; len = Some len }) (sound i from_events)
  step_sound sound (struct_shape d) = by_kind (is_tuple d.kind)
    where
      by_kind : (b : Bool) → Sound (WhichStruct d b) (struct_as terms at s d b)
      by_kind true = tuple_sound terms.setting rd at d s sound
      by_kind false = struct_sound terms.setting.registry (part_value terms.setting.registry rd) (end_at at) [] d.deny (plain_layout d) s (ends_sound terms.setting.registry rd at sound)
  step_sound sound (transparent_shape i) = sound i source
  step_sound sound (set_shape i) = refused_sound (λ r. None)
  step_sound sound (map_shape i j) = refused_sound (λ r. None)
  step_sound sound (enum_shape form vs) = refused_sound (λ r. None)

  none_complete : Complete {A = Tree} (λ r. None) refused_at
  none_complete path r w rest ending last e = absurd cc

  step_complete : ((s : ℕ) (source : Source) → Complete (rd s source) (at s source)) → (d : Definition) → Complete (λ r. read_as terms.setting rd s source d r) (value_as terms at s source d)
  step_complete complete (scalar_shape t) = scalar_complete (target_of terms s t)
  step_complete complete (option_shape i) = option_complete (rd i from_events) (at i from_events) (complete i from_events)
  step_complete complete (result_shape i j) = result_complete rd at i j complete
  step_complete complete (list_shape i) = sequence_complete (rd i from_events) (at i from_events) (record { shape = label_at terms.setting.registry s; len = None }) (complete i from_events)
  step_complete complete (array_shape i len) = sequence_complete (rd i from_events) (at i from_events) (record { shape = label_at terms.setting.registry s; len = Some len }) (complete i from_events)
  step_complete complete (struct_shape d) = by_kind (is_tuple d.kind)
    where
      by_kind : (b : Bool) → Complete (WhichStruct d b) (struct_as terms at s d b)
      by_kind true = tuple_complete terms.setting rd at d s complete
      by_kind false = struct_complete terms.setting.registry (part_value terms.setting.registry rd) (end_at at) [] d.deny (plain_layout d) s (ends_complete terms.setting.registry rd at complete)
  step_complete complete (transparent_shape i) = complete i source
  step_complete complete (set_shape i) = none_complete
  step_complete complete (map_shape i j) = none_complete
  step_complete complete (enum_shape form vs) = none_complete

  shape_sound : ((s : ℕ) (source : Source) → Sound (rd s source) (at s source)) → (o : Option Definition) → Sound (λ r. read_shape terms.setting rd s source r o) (value_at terms at s source o)
  shape_sound sound None = refused_sound (λ r. None)
  shape_sound sound (Some d) = step_sound sound d

  shape_complete : ((s : ℕ) (source : Source) → Complete (rd s source) (at s source)) → (o : Option Definition) → Complete (λ r. read_shape terms.setting rd s source r o) (value_at terms at s source o)
  shape_complete complete None = none_complete
  shape_complete complete (Some d) = step_complete complete d

pub reading_sound : (terms : Terms) (n s : ℕ) (source : Source) → Sound (read terms.setting n s source) (reading terms n s source)
reading_sound terms zero s source = λ path es ending last w after e. absurd cc
reading_sound terms (suc n) s source = shape_sound terms (read terms.setting n) (reading terms n) s source (reading_sound terms n) (definition_at terms.setting.registry s)

pub reading_complete : (terms : Terms) (n s : ℕ) (source : Source) → Complete (read terms.setting n s source) (reading terms n s source)
reading_complete terms zero s source = λ path r w rest ending last e. absurd cc
reading_complete terms (suc n) s source = shape_complete terms (read terms.setting n) (reading terms n) s source (reading_complete terms n) (definition_at terms.setting.registry s)

pub reading_refuses : (terms : Terms) (n s : ℕ) (source : Source) → Refuses (read terms.setting n s source) (reading terms n s source)
reading_refuses terms n s source = refuses (read terms.setting n s source) (reading terms n s source) (reading_complete terms n s source)
