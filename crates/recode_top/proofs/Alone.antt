-- Reading the one value of a tape.
use Rattle.std.proofs.Common.{◌≡◌, ℕ, zero, suc, Bool, true, false, cond, List, [], ◌∷◌, ◌++◌, append-nil, Option, Some, None, Ok, Err, inl, inr, refl, sym, ap, ◌∙◌, subst}
use Rattle.std.specs.Prelude.{◌⊎◌, codes}
use Rattle.std.specs.Option.{option_map}
use Rattle.semantics_lines.specs.Trees.{Tree}
use Rattle.semantics_lines.specs.Texts.{Phrase}
use Rattle.semantics_lines.specs.Events.{Metadata, Note, key, Event, leaf}
use Rattle.semantics.specs.Runs.{run_events}
use Rattle.semantics_lines.specs.Faults.{out_of_memory, ends, stops}
use Rattle.semantics.specs.Reading.{Setting, from_events, Reads}
use Rattle.semantics_causes.specs.Refusals.{HasCauseFrom, IsFaultBehind}
use Rattle.shape_types.specs.declared.value.Value.{Value}
use Rattle.shape_types.specs.Trees.{tree_of}
use Rattle.shape_types.specs.Texts.{phrase_of}
use Rattle.event_core.specs.Building.{is_memory}
use Rattle.event_core.specs.Events.{event_from, event_of}
use Rattle.event_core.specs.Faults.{fault_kind_of, fault_of}
use Rattle.event_core.specs.Keys.{full_key, key_of}
use Rattle.event_core.specs.Kinds.{kind_text}
use Rattle.event_core.specs.Metadata.{metadata_of, note_view}
use Rattle.event_core.specs.Queued.{Queued, empty_queue}
use Rattle.event_core.specs.declared.error.DeserializeErrorKind.{DeserializeErrorKind}
use Rattle.event_core.specs.declared.error.DeserializeErrorKind.TheVariants as kinds
use Rattle.event_core.specs.declared.error.DeserializeError.{DeserializeError}
use Rattle.event_core.specs.declared.event.ParseEvent.{ParseEvent}
use Rattle.event_core.specs.declared.event.ParseEventKind.{ParseEventKind}
use Rattle.event_core.specs.declared.event.ParseEventKind.TheVariants as events
use Rattle.event_core.specs.declared.key.FieldKey.{FieldKey}
use Rattle.event_core.specs.declared.key.FieldKey.TheVariants.{Name, Full}
use Rattle.event_core.specs.declared.span.Span.{Span as DeclaredSpan}
use Rattle.laws_reading.specs.Input.{Input}
use Rattle.tape_text.specs.Coming.{coming_from}
use Rattle.tape_text.specs.Parser.{Tape, parsing_of}
use Rattle.format_read.specs.Seats.{Owner, seat_of}
use Rattle.format_read.specs.Deserializing.{IsMemory, IsRead, Answers, IsCaused, Finishes}
use Rattle.recode_top.specs.declared.error.RecodeError.{RecodeError}
use Rattle.recode_top.specs.declared.error.RecodeError.TheVariants as errors
use Rattle.recode_top.specs.Recode.{event_name, told, IsAlone, IsNotAlone, IsTreeUnlessMemory, FindsAlone, RefusesAs, TrailsAs}

-- a deserializer of a tape's parser is told what comes of the tape
pub is_told : (p : Tape) (owner : Owner) (q : Queued) (last : DeclaredSpan) (input : List ℕ) (capacity : ℕ)
    → p ≡ record { input = input; at = 0; faults = 0 } → q ≡ empty_queue capacity → last ≡ record { offset = 0; len = 0 }
    → (seat_of (parsing_of p) owner q last).input ≡ told capacity (coming_from 0 input)
is_told p owner q last input capacity e f h = rw (e, f, h) (by_capacity capacity)
  where
    by_capacity : (n : ℕ) → (seat_of (parsing_of (record { input = input; at = 0; faults = 0 })) owner (empty_queue n) (record { offset = 0; len = 0 })).input ≡ told n (coming_from 0 input)
    by_capacity zero = refl
    by_capacity (suc n) = refl

-- the word for a declared event is the event's
pub named_so : (e : ParseEvent) → kind_text e.kind ≡ event_name (event_of e)
named_so e = by_kind e.kind
  where
    by_name : (name : Option Phrase) (m : Metadata) (n : Note) → codes "field key" ≡ event_name (leaf (key (full_key name m n)))
    by_name None m n = refl
    by_name (Some t) m n = refl

    by_key : (k : FieldKey) (n : Note) → codes "field key" ≡ event_name (leaf (key (key_of k n)))
    by_key (Name t) n = refl
    by_key (Full k) n = by_name (option_map phrase_of k.name) (metadata_of k.meta) n

    by_kind : (k : ParseEventKind) → kind_text k ≡ event_name (event_from k (note_view e.span e.meta))
    by_kind (events.FieldKey k) = by_key k (note_view e.span e.meta)
    by_kind _ = refl

-- want of memory is told by the kind
memory_kind : (k : DeserializeErrorKind) → fault_kind_of k ≡ out_of_memory → is_memory k ≡ true
memory_kind (kinds.Alloc operation) h = refl
memory_kind _ h = absurd cc

-- what is answered for want of memory
pub memory_alone : (e : DeserializeError) (error : RecodeError) → RefusesAs e error → IsMemory e → error ≡ errors.Alloc
memory_alone e error is memory = is ∙ ap (λ b. cond b errors.Alloc (errors.Deserialize e)) (memory_kind e.kind memory)

-- the event that was taken stood first
pub event_taken : (mid new : Input) (e : ParseEvent) (found : Option ParseEvent) → found ≡ Some e → Finishes mid new (Ok found) → mid.events ≡ event_of e ∷ new.events
event_taken mid new e found is f = (subst (λ (x : Option ParseEvent). Finishes mid new (Ok x)) is f).0

module _ (g : Setting) (root depth : ℕ) (old : Input) where
  not_alone : (e : DeserializeError) (error : RecodeError) → RefusesAs e error
      → ((left : List Event) × HasCauseFrom g root depth old.last old.events old.ending left (fault_of e)) ⊎ IsFaultBehind g root depth old.events old.ending (fault_of e)
      → IsNotAlone g root depth old error
  not_alone e error is why = subst (IsNotAlone g root depth old) (sym is) (by_test (is_memory e.kind))
    where
      by_test : (b : Bool) → IsNotAlone g root depth old (cond b errors.Alloc (errors.Deserialize e))
      by_test true = tt
      by_test false = why

  -- the value isn't read
  pub refused_value : (e : DeserializeError) (error : RecodeError) → RefusesAs e error → (new : Input) → IsCaused g depth root old new e → IsNotAlone g root depth old error
  refused_value e error is new (inl memory) = subst (IsNotAlone g root depth old) (sym (memory_alone e error is memory)) tt
  refused_value e error is new (inr cause) = not_alone e error is (inl (new.events, cause))

  unless_memory : (e : DeserializeError) (error : RecodeError) (value : Tree) → RefusesAs e error → IsMemory e → IsTreeUnlessMemory value (Err error)
  unless_memory e error value is memory = subst (λ (x : RecodeError). IsTreeUnlessMemory value (Err x)) (sym (memory_alone e error is memory)) tt

  pub refused_found : (new : Input) (e : DeserializeError) (error : RecodeError) → RefusesAs e error → Answers tree_of g depth root old new (Err e) → FindsAlone g root depth old (Err error)
  refused_found new e error is answers value reads ending =
      unless_memory e error value is (answers reads.run [] value (reads.cut ∙ sym (append-nil (run_events reads.run))) reads.is)

  -- the value is read, and then the end is looked for
  module _ (mid : Input) (v : Value) (value : IsRead g depth root old mid (tree_of v)) where
    whole : mid.events ≡ [] → Reads g depth root from_events old.events (tree_of v)
    whole none = record { run = value.run; cut = value.cut ∙ ap (λ l. run_events value.run ++ l) none ∙ append-nil (run_events value.run); is = value.reads }

    pub ends_alone : mid.events ≡ [] → mid.ending ≡ ends → IsAlone g root depth old (tree_of v)
    ends_alone none end = record { reads = whole none; ending = sym value.ending ∙ end; of_root = value.of_shape }

    pub refused_trailing : (e : ParseEvent) (rest : List Event) (error : RecodeError) → mid.events ≡ event_of e ∷ rest → TrailsAs (event_of e) error → IsNotAlone g root depth old error
    refused_trailing e rest (errors.Trailing kind span) next (named, at) = record {
      trailing = record {
        front = run_events value.run;
        event = event_of e;
        rest = rest;
        cut = value.cut ∙ ap (λ l. run_events value.run ++ l) next;
        value = tree_of v;
        reads = record { run = value.run; cut = refl; is = value.reads };
        spanned = sym at;
      };
      called = named;
    }
    refused_trailing e rest (errors.Deserialize f) next h = absurd h
    refused_trailing e rest (errors.Serialize f) next h = h
    refused_trailing e rest errors.Alloc next h = tt

    pub refused_behind : (new : Input) (e : DeserializeError) (error : RecodeError) → RefusesAs e error → Finishes mid new (Err e) → IsNotAlone g root depth old error
    refused_behind new e error is (inl memory) = subst (IsNotAlone g root depth old) (sym (memory_alone e error is memory)) tt
    refused_behind new e error is (inr (none, stopped, same)) =
        not_alone e error is (inr (record { value = tree_of v; reads = whole none; is = sym value.ending ∙ stopped }))

    module _ (answers : Answers tree_of g depth root old mid (Ok v)) where
      answered : (w : Tree) → Reads g depth root from_events old.events w → (tree_of v ≡ w) × (mid.events ≡ [])
      answered w reads = answers reads.run [] w (reads.cut ∙ sym (append-nil (run_events reads.run))) reads.is

      pub finds_none : FindsAlone g root depth old (Ok v)
      finds_none w reads ending = (answered w reads).0

      pub finds_another : (e : ParseEvent) (rest : List Event) (error : RecodeError) → mid.events ≡ event_of e ∷ rest → FindsAlone g root depth old (Err error)
      finds_another e rest error next w reads ending = absurd (let clash : [] ≡ event_of e ∷ rest = sym (answered w reads).1 ∙ next in cc)

      pub finds_fault : (new : Input) (e : DeserializeError) (error : RecodeError) → RefusesAs e error → Finishes mid new (Err e) → FindsAlone g root depth old (Err error)
      finds_fault new e error is (inl memory) w reads ending = unless_memory e error w is memory
      finds_fault new e error is (inr (none, stopped, same)) w reads ending = absurd (let clash : ends ≡ stops (fault_of e) = sym ending ∙ sym value.ending ∙ stopped in cc)
