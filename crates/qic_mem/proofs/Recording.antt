-- What one more call of a tape in memory does to its record, and to what a stop leaves by it.
use Rattle.std.proofs.Common.{◌≡◌, ◌⊎◌, ℕ, ◌≤◌, inl, inr, Bool, true, false, List, [], ◌∷◌, length, ◌-◌, Option, Some, None, is_some, refl}
use Rattle.std.proofs.Common.{sym, ap, ◌∙◌, subst, arith, if◌then◌else◌}
use Rattle.std.specs.Prelude.{◌==◌, ◌||◌}
use Rattle.qic_base.specs.Cartridge.{Cartridge}
use Rattle.qic_base.specs.Tape.{Rose, Stops, Done, Broke}
use Rattle.qic_base.specs.Step.{Step, Torn}
use Rattle.qic_mem.specs.declared.tape.MemTape.{MemTape}
use Rattle.qic_mem.specs.declared.tape.outcome.Outcome.{Outcome}
use Rattle.qic_mem.specs.declared.tape.outcome.Outcome.TheVariants as outcome
use Rattle.qic_mem.specs.declared.tape.outcome.End.TheVariants as end
use Rattle.qic_mem.specs.TapeChange.{IsReached}
use Rattle.qic_mem.specs.Holder.{holder_state, holder-told_right}
use Rattle.qic_mem.specs.TapeLog.{TapeCall, TapeLog, held_after, LeftSince, is_full, logged, moment_of, left_of}
use Rattle.qic_mem.specs.TapeLogLaws.{Stands}
use Rattle.qic_base.proofs.Steps.{Rose-some}
use Rattle.qic_mem.specs.Outcome.{ended, left_by}
use Rattle.qic_mem.specs.Tape.{tape_state, tape_means}
use Rattle.qic_mem.proofs.Leaving.{torn-left}

-- the log with one more call, or without it
abbrev one_more : TapeLog → TapeCall → Bool → Option TapeLog
one_more l call full = Some (if full then l else record { calls = call ∷ l.calls; calls_left = l.calls_left - 1 })

-- ---- the record gives what stands

push-stands : (l : TapeLog) (call : TapeCall) (held : Option Cartridge) (full : Bool) → held_after l.calls ≡ held →
    (full ≡ true → ended call.end call.step held ≡ held) → Stands (one_more l call full) (ended call.end call.step held)
push-stands l call held true stands full m is =
    let same : l ≡ m = cc in
    ap (λ (n : TapeLog). held_after n.calls) (sym same) ∙ stands ∙ sym (full refl)
push-stands l call held false stands full m is =
    let same : record { calls = call ∷ l.calls; calls_left = l.calls_left - 1 } ≡ m = cc in
    ap (λ (n : TapeLog). held_after n.calls) (sym same) ∙ ap (ended call.end call.step) stands

logged-stands : (log : Option TapeLog) (call : TapeCall) (held : Option Cartridge) → Stands log held →
    (is_full log ≡ true → ended call.end call.step held ≡ held) → Stands (logged log call) (ended call.end call.step held)
logged-stands None call held stands full m is = cc
logged-stands (Some l) call held stands full m is = push-stands l call held (l.calls_left == 0) (stands l refl) full m is

-- after a call that is recorded the record gives what stands
pub stands-after : (log after : Option TapeLog) (call : TapeCall) (held left : Option Cartridge) → Stands log held →
    after ≡ logged log call → left ≡ ended call.end call.step held → (is_full log ≡ true → left ≡ held) → Stands after left
stands-after log after call held left stands noted leaves full =
    rw (noted, leaves) (logged-stands log call held stands (λ is. sym leaves ∙ full is))

-- a call without room in the record is refused
pub full-refused : (log : Option TapeLog) (past refused : Bool) → refused ≡ is_full log || past → is_full log ≡ true → refused ≡ true
full-refused log past refused is full = is ∙ ap (λ b. b || past) full

-- ---- what a stop leaves by it

-- a stop since t was one before this call, or one since any moment between
since-parted : (calls : List TapeCall) (call : TapeCall) (t u : ℕ) (left : Option Cartridge) → u ≤ length calls →
    LeftSince (call ∷ calls) t left → LeftSince calls t left ⊎ LeftSince (call ∷ calls) u left
since-parted calls call t u left early (inl was) = inl was
since-parted calls call t u left early (inr (inl (late, torn))) = inr (inr (inl (early, torn)))
since-parted calls call t u left early (inr (inr (late, is))) = inr (inr (inr (omega arith, is)))

-- a stop since t left what one before this call left, or what one in it leaves
since-call : (calls : List TapeCall) (call : TapeCall) (t : ℕ) (left : Option Cartridge) → Torn (call.step ∷ []) (held_after calls)
    (ended call.end call.step (held_after calls)) → LeftSince (call ∷ calls) t left → LeftSince calls t left
    ⊎ Torn (call.step ∷ []) (held_after calls) left
since-call calls call t left torn (inl was) = inl was
since-call calls call t left torn (inr (inl (late, inside))) = inr inside
since-call calls call t left torn (inr (inr (late, is))) =
    inr (subst (λ (l : Option Cartridge). Torn (call.step ∷ []) (held_after calls) l) (sym is) torn)

push-kept : (l : TapeLog) (call : TapeCall) (t : ℕ) (left : Option Cartridge) (full : Bool) → left_of (Some l) t left →
    left_of (one_more l call full) t left
push-kept l call t left true was = was
push-kept l call t left false was = inl was

logged-kept : (log : Option TapeLog) (call : TapeCall) (t : ℕ) (left : Option Cartridge) → left_of log t left →
    left_of (logged log call) t left
logged-kept None call t left was = tt
logged-kept (Some l) call t left was = push-kept l call t left (l.calls_left == 0) was

push-parted : (l : TapeLog) (call : TapeCall) (t u : ℕ) (left : Option Cartridge) (full : Bool) → u ≤ length l.calls →
    left_of (one_more l call full) t left → left_of (Some l) t left ⊎ left_of (one_more l call full) u left
push-parted l call t u left true early was = inl was
push-parted l call t u left false early was = since-parted l.calls call t u left early was

logged-parted : (log : Option TapeLog) (call : TapeCall) (t u : ℕ) (left : Option Cartridge) → u ≤ moment_of log →
    left_of (logged log call) t left → left_of log t left ⊎ left_of (logged log call) u left
logged-parted None call t u left early was = inl tt
logged-parted (Some l) call t u left early was = push-parted l call t u left (l.calls_left == 0) early was

push-since : (l : TapeLog) (call : TapeCall) (t : ℕ) (left : Option Cartridge) (full : Bool) → Torn (call.step ∷ []) (held_after l.calls)
    (ended call.end call.step (held_after l.calls)) → left_of (one_more l call full) t left → left_of (Some l) t left
    ⊎ Torn (call.step ∷ []) (held_after l.calls) left
push-since l call t left true torn was = inl was
push-since l call t left false torn was = since-call l.calls call t left torn was

logged-since : (log : Option TapeLog) (call : TapeCall) (held : Option Cartridge) (t : ℕ) (left : Option Cartridge) → Stands log held →
    Torn (call.step ∷ []) held (ended call.end call.step held) → left_of (logged log call) t left → left_of log t left
    ⊎ Torn (call.step ∷ []) held left
logged-since None call held t left stands torn was = inl tt
logged-since (Some l) call held t left stands torn was =
    let here : held ≡ held_after l.calls = sym (stands l refl) in
    rw here (push-since l call t left (l.calls_left == 0) (rw here at torn) was)

push-clock : (l : TapeLog) (call : TapeCall) (full : Bool) → length l.calls ≤ moment_of (one_more l call full)
push-clock l call true = omega arith
push-clock l call false = omega arith

logged-clock : (log : Option TapeLog) (call : TapeCall) → moment_of log ≤ moment_of (logged log call)
logged-clock None call = omega arith
logged-clock (Some l) call = push-clock l call (l.calls_left == 0)

logged-telling : (log : Option TapeLog) (call : TapeCall) → is_some (logged log call) ≡ is_some log
logged-telling None call = refl
logged-telling (Some l) call = refl

-- each stop since a call that is recorded left what one before it left, or what one inside it leaves
call-stops : (old new : MemTape) (call : TapeCall) → new.log ≡ logged old.log call → Torn (call.step ∷ []) (tape_state old).cartridge
    (ended call.end call.step (tape_state old).cartridge) → Stops tape_means old new (call.step ∷ [])
unfolding tape_state
call-stops old new call noted torn = record {
  telling = rw noted (logged-telling old.log call);
  clock = rw noted (logged-clock old.log call);
  kept = λ t left early was. rw noted (logged-kept old.log call t left was);
  parted = λ t u left order early was. rw noted (logged-parted old.log call t u left early (rw noted at was));
  since = λ t held left told early was.
      let here : (holder_state old.holder).cartridge ≡ held = cc in
      rw (← here) (logged-since old.log call (holder_state old.holder).cartridge t left old.replayed torn (rw noted at was));
}

-- ---- what a call did

pub run-done : (old new : MemTape) (s : Step) → (holder_state new.holder).cartridge ≡ ended end.Done s (holder_state old.holder).cartridge →
    new.log ≡ logged old.log (record { step = s; end = end.Done }) → (tape_state new).plan.faults ≡ (tape_state old).plan.faults →
    Done tape_means old new (s ∷ [])
unfolding tape_state
run-done old new s leaves noted later = record {
  told = ap Some leaves;
  later = later;
  stops = call-stops old new (record { step = s; end = end.Done }) noted (inr (inr refl));
}

pub run-broke : (old new : MemTape) (s : Step) (by : Outcome) → IsReached (tape_state old).size s →
    (holder_state new.holder).cartridge ≡ left_by by s (holder_state old.holder).cartridge →
    new.log ≡ logged old.log (record { step = s; end = end.Failed by }) → (tape_state old).plan.faults ≤ (tape_state new).plan.faults →
    Rose (tape_state old).plan.faults (tape_state new).plan.faults → Broke tape_means old new (s ∷ [])
unfolding tape_state
run-broke old new s by reached leaves noted later rose =
    let torn : Torn (s ∷ []) (holder_state old.holder).cartridge (left_by by s (holder_state old.holder).cartridge) =
    torn-left (holder_state old.holder).size (holder_state old.holder).cartridge by s (holder-told_right old.holder) reached in
    record {
      cause = rose;
      later = later;
      last = Rose-some (tape_state old).plan.faults (tape_state new).plan.faults rose;
      tells = refl;
      torn = λ held left before after.
          let was : (holder_state old.holder).cartridge ≡ held = cc in
          let is : left_by by s (holder_state old.holder).cartridge ≡ left = cc in
          subst (λ (h : Option Cartridge). Torn (s ∷ []) h left) was
          (subst (λ (l : Option Cartridge). Torn (s ∷ []) (holder_state old.holder).cartridge l) is torn);
      stops = call-stops old new (record { step = s; end = end.Failed by }) noted torn;
    }

-- what a call that leaves all as it was leaves
pub old-left : (held left : Option Cartridge) (by : Outcome) (s : Step) → left ≡ left_by by s held → by ≡ outcome.Old → left ≡ held
old-left held left by s leaves is = leaves ∙ ap (λ o. left_by o s held) is
