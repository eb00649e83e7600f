-- What an event does to a node that is open, and to a value that is passed over.
use Rattle.std.proofs.Common.{◌≡◌, ℕ, suc, List, [], ◌∷◌, ◌++◌, Option, Some, None, Ok, Bool, true, false, cond, option_and_then, refl, sym, ap, ◌∙◌, subst, append_assoc}
use Rattle.semantics_lines.specs.Trees.{Tree}
use Rattle.semantics_lines.specs.Shapes.{scalar_shape}
use Rattle.semantics_lines.specs.Events.{Span, Note, Key, key_note, scalar, key, tag, of_struct, of_sequence, Event, leaf, start, stop, span_of}
use Rattle.semantics.specs.Labels.{label_at}
use Rattle.semantics.specs.Runs.{Entry, entries_events}
use Rattle.semantics.specs.Reading.{key_text, is_argument, is_key, arguments, read_node}
use Rattle.semantics_causes.specs.Taken.{TakesNodeKey, in_object}
use Rattle.semantics_causes.specs.Due.{Part, defined_at}
use Rattle.semantics_causes.specs.Causes.{node_takes, same_argument, IsDuplicate}
use Rattle.laws_reading.specs.Input.{◌>>=◌, unexpected}
use Rattle.laws_reading.specs.Skips.{Opened}
use Rattle.laws_reading.specs.Nodes.{or_unexpected}
use Rattle.laws_reading.specs.Values.{Terms}
use Rattle.laws_reading.proofs.Streams.{inside_of_entries}
use Rattle.laws_machine.specs.Frames.{NodePart, node, argument, passing, Frame, Frames, path}
use Rattle.laws_machine.specs.Delivery.{going, here, deliver}
use Rattle.laws_machine.specs.Steps.{argument_step, node_step, step_at}
use Rattle.laws_machine.specs.Leaves.{leaves}
use Rattle.laws_causes.proofs.Holding.{first_of, KeepsArgument, no_argument, one_argument, HoldsNode, HoldsArgument}
use Rattle.laws_causes.proofs.Keeping.{Fits, Open, Passing, After}
use Rattle.laws_causes.proofs.Standing.{fits_path}
use Rattle.laws_causes.proofs.Opened.{opened_none}
use Rattle.laws_causes.proofs.Coming.{first_more, object_spot, object_stray, object_ends}
use Rattle.laws_causes.proofs.Passed.{passing_to, passed}
use Rattle.laws_causes.proofs.ArgumentSteps.{set_after}
use Rattle.laws_causes.proofs.NodeKeeps.{node_holds, node_passes, argument_is_key, other_keeps, no_value, a_value}

module _ (t : Terms) where
  module _ (root : Part) (top : root.path ≡ []) where
    module _ (fs : Frames) (before own : List Event) (part : Part) (n : ℕ) (deep : part.depth ≡ suc n) (fits : Fits t root fs before part (first_of own None)) where
      module _ (p : NodePart) (holds : HoldsNode t p part n own) where
        -- an event that it doesn't take
        node_stray : (e : Event) → node_takes holds.entries e ≡ false → After t root false (before ++ own) e (unexpected (path t fs) (here (span_of e)))
        node_stray e none =
            object_stray t root top fs before own part n deep fits holds.shape (scalar_shape holds.type) holds.of holds.kind holds.note holds.entries holds.is holds.took e none (span_of e)

        module _ (q : Key) where
          -- the key of the argument, where there was one
          again : (first : Span) → IsDuplicate t.setting root ((before ++ own) ++ (leaf (key q) ∷ [])) [] (key_text q) first (path t fs)
              → After t root false (before ++ own) (leaf (key q)) (argument_step (Some first) t p fs q)
          again first h = h

          duplicate : (b : List Entry) (earlier : Entry) (a : List Entry) → holds.entries ≡ b ++ (earlier ∷ a) → is_argument earlier.key ≡ true → is_argument q ≡ true
              → IsDuplicate t.setting root ((before ++ own) ++ (leaf (key q) ∷ [])) [] (key_text q) (key_note earlier.key).span (path t fs)
          duplicate b earlier a cut named is = record {
            here = record {
              front = before ++ own;
              event = leaf (key q);
              is = refl;
              spot = object_spot t root top fs before own part n deep fits holds.shape (scalar_shape holds.type) holds.of holds.kind holds.note holds.entries holds.is holds.took (leaf (key q) ∷ []);
            };
            again = q;
            event = refl;
            container = holds.kind;
            before = b;
            earlier = earlier;
            after = a;
            place = ap (in_object holds.kind) cut;
            clashes = same_argument holds.type (ap (λ w. defined_at t.setting.registry w) holds.of.what ∙ holds.of.defined) named is refl;
            first_span = refl;
            at = fits_path t root top fs before part (first_of own None) fits;
          }

          -- the key of the argument, where there was none
          named : arguments holds.entries ≡ [] → is_argument q ≡ true → Open t root (argument p (key_note q).span) fs ((before ++ own) ++ (leaf (key q) ∷ []))
          named none is = record {
            part = part;
            n = n;
            deep = deep;
            before = before;
            own = own ++ (leaf (key q) ∷ []);
            is = append_assoc before own (leaf (key q) ∷ []);
            fits = subst (Fits t root fs before part) (first_more own (leaf (key q) ∷ []) (start of_struct holds.kind holds.note) (entries_events holds.entries) None holds.is) fits;
            holds = record { before = own; node = holds; q = q; is = refl; takes = record { is_key = argument_is_key q is; once = λ x. none }; names = is; spanned = refl };
          }

          by_argument : is_argument q ≡ true → KeepsArgument t holds.shape holds.type holds.entries p.node.first p.node.value
              → After t root false (before ++ own) (leaf (key q)) (argument_step p.node.first t p fs q)
          by_argument is (no_argument none first_is value_is) =
              subst (λ o. After t root false (before ++ own) (leaf (key q)) (argument_step o t p fs q)) (sym first_is) (named none is)
          by_argument is (one_argument b earlier a cut called args first_is value_is unset) =
              subst (λ o. After t root false (before ++ own) (leaf (key q)) (argument_step o t p fs q)) (sym first_is) (again (key_note earlier.key).span (duplicate b earlier a cut called is))

          -- another key, whose value is passed over
          passes_key : is_argument q ≡ false → is_key q ≡ true → Passing t root [] (node p) fs ((before ++ own) ++ (leaf (key q) ∷ []))
          passes_key other is = record {
            part = part;
            n = n;
            deep = deep;
            before = before;
            kind = holds.kind;
            note = holds.note;
            entries = holds.entries;
            q = q;
            inside = [];
            is = append_assoc before own (leaf (key q) ∷ []) ∙ ap (λ l. before ++ (l ++ (leaf (key q) ∷ []))) holds.is;
            fits = subst (Fits t root fs before part) (ap (λ l. first_of l None) holds.is) fits;
            opened = opened_none;
            shape = holds.shape;
            what = holds.of.what;
            took = node_passes t part n own p holds q takes;
            holds = λ r rest begins. node_holds t part n own p holds q p refl r takes (λ x. absurd (let both : false ≡ true = sym other ∙ x in cc))
                (other_keeps t holds.shape holds.type holds.entries q r p.node.first p.node.value other holds.keeps);
          }
            where
              takes : TakesNodeKey holds.entries q
              takes = record { is_key = is; once = λ x. absurd (let both : false ≡ true = sym other ∙ x in cc) }

          node_key : After t root false (before ++ own) (leaf (key q)) (node_step t p fs q)
          node_key = by_name (is_argument q) refl
            where
              by_key : is_argument q ≡ false → (b : Bool) → is_key q ≡ b
                  → After t root false (before ++ own) (leaf (key q)) (cond b (Ok (going (passing [] ∷ node p ∷ fs))) (unexpected (path t fs) (here (key_note q).span)))
              by_key other true is = passes_key other is
              by_key other false is = node_stray (leaf (key q)) is

              by_name : (b : Bool) → is_argument q ≡ b
                  → After t root false (before ++ own) (leaf (key q)) (cond b (argument_step p.node.first t p fs q)
                  (cond (is_key q) (Ok (going (passing [] ∷ node p ∷ fs))) (unexpected (path t fs) (here (key_note q).span))))
              by_name true is = by_argument is holds.keeps
              by_name false is = by_key is (is_key q) refl

        -- its end
        node_end : (m : Note) (o : Option Tree) → p.node.value ≡ o → After t root false (before ++ own) (stop of_struct m) (or_unexpected o (path t fs) (here m.span) >>= deliver fs)
        node_end m None is = node_stray (stop of_struct m) (no_value t holds.shape holds.type holds.entries p.node.first p.node.value holds.keeps is)
        node_end m (Some v) is =
            object_ends t root top fs before own part n deep fits holds.shape (scalar_shape holds.type) holds.of holds.kind holds.note holds.entries holds.is m v
            (ap (option_and_then (read_node t.setting.borrow (label_at t.setting.registry holds.shape) holds.type)) (inside_of_entries holds.entries m)
            ∙ a_value t holds.shape holds.type holds.entries p.node.first p.node.value v holds.keeps is holds.took)

      pub node_after : (p : NodePart) → HoldsNode t p part n own → (last : Span) (e : Event) → After t root (leaves t (node p ∷ fs) e) (before ++ own) e (step_at t (node p ∷ fs) last e)
      node_after p holds last (leaf (key q)) = node_key p holds q
      node_after p holds last (stop of_struct m) = node_end p holds m p.node.value refl
      node_after p holds last (leaf (scalar x m)) = node_stray p holds (leaf (scalar x m)) refl
      node_after p holds last (leaf (tag x m)) = node_stray p holds (leaf (tag x m)) refl
      node_after p holds last (start b k m) = node_stray p holds (start b k m) refl
      node_after p holds last (stop of_sequence m) = node_stray p holds (stop of_sequence m) refl

      pub argument_after : (p : NodePart) (first : Span) → HoldsArgument t p first part n own → (last : Span) (e : Event)
          → After t root (leaves t (argument p first ∷ fs) e) (before ++ own) e (step_at t (argument p first ∷ fs) last e)
      argument_after p first holds last e = set_after t root top fs before own part n deep fits p first holds e

    -- what an event does to a value that is passed over
    pub passing_after : (os : Opened) (f : Frame) (fs : Frames) (events : List Event) → Passing t root os f fs events → (last : Span) (e : Event)
        → After t root (leaves t (passing os ∷ f ∷ fs) e) events e (step_at t (passing os ∷ f ∷ fs) last e)
    passing_after os f fs events h last e = passed t root os f fs events top e (passing_to t root os f fs events h e)
