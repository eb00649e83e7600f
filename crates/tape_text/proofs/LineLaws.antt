-- The reading of a line against what lines are.
use Rattle.std.proofs.Common.{ℕ, ◌≡◌, List, ◌++◌, Bool, true, false, cond, ◌||◌, Option, None, Some, sym, refl, ap, ◌∙◌, subst}
use Rattle.std.specs.Prelude.{IsTrue, option_and_then}
use Rattle.std.specs.Str.{is_utf8}
use Rattle.semantics_lines.specs.Events.{Span, named, nameless, ordered, scalar, key, tag, of_struct, of_sequence, object_kind, array_kind, Event, leaf, start, stop, span_of, unplaced, no_span, Metadata}
use Rattle.semantics_lines.specs.Lines.{suffix, line_of, HasTapeTexts, IsLineOf, IsNoLine}
use Rattle.semantics_lines.specs.Tapes.{has_no_end}
use Rattle.laws_lines.proofs.LineEnds.{line_no_end}
use Rattle.tape_text.specs.Suffixes.{metadata, metadata_at}
use Rattle.tape_text.specs.Bodies.{Body, opens, closes, next_field, names, tags, holds, takes_metadata, body_at}
use Rattle.tape_text.specs.Reading.{is_silent, event_from, event_with, completed, event_of}
use Rattle.tape_text.specs.Laws.{LineIsRead}
use Rattle.laws_lines.proofs.Tests.{bound}
use Rattle.tape_text.proofs.Suffixes.{metadata-again, metadata-takes, suffix-ends}
use Rattle.tape_text.proofs.BodyLaws.{body-takes}
use Rattle.tape_text.proofs.BodyAgain.{body-again}
use Rattle.tape_text.proofs.EventLaws.{line_made, IsMade, line_is_made}

-- the line of an event is read as the event

made_again : (e : Event) (line : List ℕ) → IsMade e line → event_of (span_of e) line ≡ Some e
unfolding event_of
made_again e line m =
    let rest = suffix (metadata m.tag m.docs) in
    ap (λ l. option_and_then (completed (span_of e)) (body_at l)) m.line_is
    ∙ ap (option_and_then (completed (span_of e))) (body-again m.body m.text rest m.spelled m.texts (suffix-ends m.tag m.docs))
    ∙ ap (option_and_then (event_with m.body (span_of e))) (metadata-again m.tag m.docs m.tag_text m.docs_texts)
    ∙ ap (λ b. cond b (Some (event_from m.body (span_of e) (metadata m.tag m.docs))) None) m.fits
    ∙ ap Some m.event_is

pub event-again : (e : Event) (line : List ℕ) → line_of e ≡ Some line → HasTapeTexts e → event_of (span_of e) line ≡ Some e
event-again e line h t = made_again e line (line_is_made e line h t)

-- what is read of a line has that line

-- the event has this line, and stands there
record IsRead (s : Span) (e : Event) (line : List ℕ) : Type 0 where
  spelled : line_of e ≡ Some line
  texts : HasTapeTexts e
  span : span_of e ≡ s

from_span : (b : Body) (s : Span) (m : Metadata) → span_of (event_from b s m) ≡ s
from_span (opens b) s m = refl
from_span (closes b) s m = refl
from_span next_field s m = refl
from_span (names None) s m = refl
from_span (names (Some t)) s m = refl
from_span (tags t) s m = refl
from_span (holds v) s m = refl

fitting : (b : Bool) (x e : Event) → cond b (Some x) None ≡ Some e → (b ≡ true) × (x ≡ e)
fitting true x e h = (refl, (let g : Some x ≡ Some e = h in cc))
fitting false x e h = absurd (let g : None ≡ Some e = h in cc)

event-takes : (s : Span) (l : List ℕ) (e : Event) → event_of s l ≡ Some e → IsRead s e l
unfolding event_of
event-takes s l e h =
    let a = bound (completed s) (body_at l) e h in
    let b = bound (event_with a.0.0 s) (metadata_at a.0.1) e a.2 in
    let body = body-takes l a.0 a.1 in
    let told = metadata-takes a.0.1 b.0 b.1 in
    let m = metadata told.tag told.docs in
    let read : event_with a.0.0 s m ≡ Some e = ap (event_with a.0.0 s) told.is ∙ b.2 in
    let f = fitting (takes_metadata a.0.0 || is_silent m) (event_from a.0.0 s m) e read in
    let made = line_made a.0.0 s told.tag told.docs body.text told.tag_text told.docs_texts f.0 body.spelled body.texts in
    let line_is : body.text ++ suffix m ≡ l = sym (body.front ∙ ap (λ x. body.text ++ x) told.front) in
    subst (λ (x : Event). IsRead s x l) f.1 (record {
      spelled = made.spelled ∙ ap Some line_is;
      texts = made.texts;
      span = from_span a.0.0 s m;
    })

-- the event, at another place
abbrev placed : Span → Event → Event
placed s (leaf (scalar x n)) = leaf (scalar x (record { span = s; metadata = n.metadata }))
placed s (leaf (key (named t m n))) = leaf (key (named t m (record { span = s; metadata = n.metadata })))
placed s (leaf (key (nameless m n))) = leaf (key (nameless m (record { span = s; metadata = n.metadata })))
placed s (leaf (key (ordered n))) = leaf (key (ordered (record { span = s; metadata = n.metadata })))
placed s (leaf (tag t n)) = leaf (tag t (record { span = s; metadata = n.metadata }))
placed s (start b c n) = start b c (record { span = s; metadata = n.metadata })
placed s (stop b n) = stop b (record { span = s; metadata = n.metadata })

unplaced_is : (e : Event) → unplaced e ≡ placed no_span e
unplaced_is (leaf (scalar x n)) = refl
unplaced_is (leaf (key (named t m n))) = refl
unplaced_is (leaf (key (nameless m n))) = refl
unplaced_is (leaf (key (ordered n))) = refl
unplaced_is (leaf (tag t n)) = refl
unplaced_is (start b c n) = refl
unplaced_is (stop b n) = refl

placed_span : (s : Span) (e : Event) → span_of (placed s e) ≡ s
placed_span s (leaf (scalar x n)) = refl
placed_span s (leaf (key (named t m n))) = refl
placed_span s (leaf (key (nameless m n))) = refl
placed_span s (leaf (key (ordered n))) = refl
placed_span s (leaf (tag t n)) = refl
placed_span s (start b c n) = refl
placed_span s (stop b n) = refl

placed_line : (s : Span) (e : Event) → line_of (placed s e) ≡ line_of e
placed_line s (leaf (scalar x n)) = refl
placed_line s (leaf (key (named t m n))) = refl
placed_line s (leaf (key (nameless m n))) = refl
placed_line s (leaf (key (ordered n))) = refl
placed_line s (leaf (tag t n)) = refl
placed_line s (start of_struct object_kind n) = refl
placed_line s (start of_struct array_kind n) = refl
placed_line s (start of_sequence object_kind n) = refl
placed_line s (start of_sequence array_kind n) = refl
placed_line s (stop of_struct n) = refl
placed_line s (stop of_sequence n) = refl

placed_texts : (s : Span) (e : Event) → HasTapeTexts e → HasTapeTexts (placed s e)
placed_texts s (leaf (scalar x n)) h = h
placed_texts s (leaf (key (named t m n))) h = h
placed_texts s (leaf (key (nameless m n))) h = h
placed_texts s (leaf (key (ordered n))) h = h
placed_texts s (leaf (tag t n)) h = h
placed_texts s (start b c n) h = h
placed_texts s (stop b n) h = h

-- A line of an event is read, wherever it stands.
anywhere : (s : Span) (e : Event) (line : List ℕ) → IsLineOf e line → event_of s line ≡ Some (placed s e)
anywhere s e line h =
    ap (λ x. event_of x line) (sym (placed_span s e))
    ∙ event-again (placed s e) line (placed_line s e ∙ h.spelled) (placed_texts s e h.texts)

-- no line holds a line feed
pub line-no_end : (e : Event) (line : List ℕ) → IsLineOf e line → has_no_end line ≡ true
line-no_end e line h = line_no_end e line h.spelled

some_same : (a b : Event) → Some a ≡ Some b → a ≡ b
some_same a b h = cc

pub one_event : (a b : Event) (line : List ℕ) → IsLineOf a line → IsLineOf b line → unplaced a ≡ unplaced b
one_event a b line h k =
    unplaced_is a ∙ some_same (placed no_span a) (placed no_span b) (sym (anywhere no_span a line h) ∙ anywhere no_span b line k) ∙ sym (unplaced_is b)

no_event : (s : Span) (line : List ℕ) (e : Event) → event_of s line ≡ None → IsLineOf e line → ⊥
no_event s line e n h = let g : None ≡ Some (placed s e) = sym n ∙ anywhere s e line h in cc

pub event-none : (s : Span) (line : List ℕ) → event_of s line ≡ None → IsNoLine line
event-none s line n e h = no_event s line e n h

pub event-sound : (s : Span) (line : List ℕ) → IsTrue (is_utf8 line) → (e : Event) → event_of s line ≡ Some e → IsLineOf e line × (span_of e ≡ s)
event-sound s line u e h =
    let t = event-takes s line e h in
    (record { spelled = t.spelled; texts = t.texts; utf8 = u }, t.span)

never_read : (s : Span) (line : List ℕ) (o : Option Event) → IsTrue (is_utf8 line) → event_of s line ≡ o → IsNoLine line → o ≡ None
never_read s line None u e h = refl
never_read s line (Some e) u o h = absurd (h e (event-sound s line u e o).0)

pub event-never : (s : Span) (line : List ℕ) → IsTrue (is_utf8 line) → IsNoLine line → event_of s line ≡ None
event-never s line u h = never_read s line (event_of s line) u refl h

pub line_is_read : (s : Span) (line : List ℕ) → IsTrue (is_utf8 line) → LineIsRead s line
line_is_read s line u = record {
  sound = event-sound s line u;
  whole = λ e h at. ap (λ x. event_of x line) (sym at) ∙ event-again e line h.spelled h.texts;
  none = event-none s line;
  never = event-never s line u;
}
