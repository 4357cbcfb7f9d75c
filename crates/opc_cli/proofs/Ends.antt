-- How a run ends that stopped while a command was served.
use Rattle.std.proofs.Common.{◌≡◌, ◌⊎◌, ◌≤◌, ℕ, List, [], ◌∷◌, Bool, true, false, cond, Option, Some, None, refl, sym, ap, ◌∙◌, inl, inr, arith}
use Rattle.std.specs.Prelude.{IfSome, IsSomeAnd, is_none}
use Rattle.std.specs.FinMap.{get}
use Rattle.opc_base.specs.Outside.{Files, Outside, Rose, Stood}
use Rattle.opc_cli.specs.declared.command.Command.{Command}
use Rattle.opc_cli.specs.declared.stop.Stop.{Stop}
use Rattle.opc_cli.specs.declared.stop.Stop.TheVariants.{Words, Read, Write, Said, Refused, NoMemory}
use Rattle.opc_cli.specs.Command.{command_of, reads}
use Rattle.opc_cli.specs.Fault.{fault_line, memory_line}
use Rattle.opc_cli.specs.Plan.{Plan, Delivery, missing, refused, answered, first_missing, IsPlan, IsPlanWhere, IsPlanOf, IsAnswered, IsAnsweredAnd}
use Rattle.opc_cli.specs.Stop.{status_of_plan, read_line, write_line}
use Rattle.opc_cli.specs.Outcome.{Done, StopsAt, IsHeld, AppendsLine, AppendsMemoryLine, SaysLine, SaysMemoryLine, HasPartOfStores, IsRefusal, CannotRead, CannotWrite, IsRefused, OutOfMemory, MustCome}
use Rattle.opc_cli.specs.Steps.{Serves, ServeStops, StopSaid, IsUntouched, Counts}
use Rattle.opc_cli.proofs.Agree.{plans_agree}
use Rattle.opc_cli.proofs.Faults.{judged}
use Rattle.opc_cli.proofs.Said.{memory_said}
use Rattle.opc_cli.proofs.Told.{under, told_map}

answered_map : {is is' : Plan → Type 0} {P Q : Delivery → Type 0} → ((plan : Plan) → is plan → is' plan) → ((d : Delivery) → P d → Q d) → IsAnsweredAnd is P → IsAnsweredAnd is' Q
answered_map called f h = record { delivery = h.delivery; called_for = called _ h.called_for; fact = f h.delivery h.fact }

-- the plan of a command is that of its words
called_by : (words : List (List ℕ)) (command : Command) (files : Files) → command_of words ≡ Some command → (plan : Plan) → IsPlanOf command files plan → IsPlan words files plan
called_by words command files is plan h = rw is h

-- what is said later is said
line_told : (told now : Option (List ℕ)) (p p' q : ℕ) (line : List ℕ) → p ≤ p' → IfSome told (λ said. IsSomeAnd now (AppendsLine p' q line said)) → IfSome told (λ said. IsSomeAnd now (AppendsLine p q line said))
line_told None now p p' q line le h = tt
line_told (Some said) None p p' q line le h = h
line_told (Some said) (Some new) p p' q line le h = record { whole = λ stood. h.whole (omega arith); partly = h.partly }

line_later : (before mid after : Outside) (line : List ℕ) → mid.said ≡ before.said → before.say_faults ≤ mid.say_faults → SaysLine line mid after → SaysLine line before after
line_later before mid after line same le h = line_told before.said after.said before.say_faults mid.say_faults after.say_faults line le (rw same at h)

memory_told : (told now : Option (List ℕ)) (p p' q : ℕ) → p ≤ p' → IfSome told (λ said. IsSomeAnd now (AppendsMemoryLine p' q said)) → IfSome told (λ said. IsSomeAnd now (AppendsMemoryLine p q said))
memory_told None now p p' q le h = tt
memory_told (Some said) None p p' q le h = h
memory_told (Some said) (Some new) p p' q le h = record { whole = λ stood. h.whole (omega arith); partly = h.partly }

memory_later : (before mid after : Outside) → mid.said ≡ before.said → before.say_faults ≤ mid.say_faults → SaysMemoryLine mid after → SaysMemoryLine before after
memory_later before mid after same le h = memory_told before.said after.said before.say_faults mid.say_faults after.say_faults le (rw same at h)

held_there : (files : Files) (name : List ℕ) → IsHeld (Some files) name → is_none (get files name) ≡ false
held_there files name h = cc

no_rise : (before after : ℕ) → Stood before after → Rose before after → ⊥
no_rise before after stood rose = omega arith

either : (status : ℕ) (mid after : Outside) → ((status ≡ 10) × SaysLine memory_line mid after) ⊎ ((status ≡ 10) × SaysMemoryLine mid after) → SaysMemoryLine mid after
either status mid after (inl ended) = memory_said mid after ended.1
either status mid after (inr ended) = ended.1

find_first : (files : Files) (b : Bool) (n : List ℕ) (names : List (List ℕ)) → is_none (get files n) ≡ b → first_missing files (n ∷ names) ≡ cond b (Some n) (first_missing files names)
find_first files b n names e = ap (λ t. cond t (Some n) (first_missing files names)) e

-- where no load failed, the loads stop at the first name that is missing
stops_find : (files : Files) (failed : Type 0) (names : List (List ℕ)) (name : List ℕ) → (failed → ⊥) → StopsAt (Some files) failed names name → first_missing files names ≡ Some name
stops_find files failed [] name stood h = absurd h
stops_find files failed (n ∷ names) name stood h = elim h [
  | inl here ↦ elim here.1 [ inl f ↦ absurd (stood f) | inr gone ↦ find_first files true n names (ap (λ q. is_none (get files q)) here.0 ∙ ap is_none gone) ∙ ap Some here.0 ]
  | inr later ↦ find_first files false n names (held_there files n later.0) ∙ stops_find files failed names name stood later.1
]

missing_where : (first : Option (List ℕ)) (command : Command) (files : Files) (name : List ℕ) (plan : Plan) → first ≡ Some name → IsPlanWhere first command files plan → plan ≡ missing name
missing_where None command files name plan e h = cc
missing_where (Some first) command files name plan e h = cc

-- where no load failed, the plan is that the name is missing
missing_plan : (files : Files) (command : Command) (failed : Type 0) (name : List ℕ) (plan : Plan) → (failed → ⊥) → StopsAt (Some files) failed (reads command) name → IsPlanOf command files plan → plan ≡ missing name
missing_plan files command failed name plan stood stops called_for =
    missing_where (first_missing files (reads command)) command files name plan (stops_find files failed (reads command) name stood stops) called_for

-- a plan beside an answer is that answer
answer_is : (command : Command) (files : Files) (plan : Plan) (P : Delivery → Type 0) → IsPlanOf command files plan → (h : IsAnsweredAnd (IsPlanOf command files) P) → answered h.delivery ≡ plan
answer_is command files plan P called_for h = plans_agree command files (answered h.delivery) plan h.called_for called_for

is_answered : (command : Command) (files : Files) (plan : Plan) (P : Delivery → Type 0) → IsPlanOf command files plan → IsAnsweredAnd (IsPlanOf command files) P → IsAnswered plan
is_answered command files plan P called_for h = rw (← (answer_is command files plan P called_for h)) tt

module _ (words : List (List ℕ)) (command : Command) (before mid after : Outside) (status : ℕ) (is : command_of words ≡ Some command) (counts : Counts before mid) where
  pub cannot_read : (stop : Stop) → ServeStops command before mid stop → StopSaid stop mid status after → status ≡ 3 → CannotRead words before after
  cannot_read Words served said three = absurd served
  cannot_read (Read at) served said three = elim said.ended [
    | inl ended ↦ record {
      name = at.now;
      stops_at = rw (is, said.rest.load_faults) served.0;
      files = said.rest.files ∙ served.1.files;
      line = line_later before mid after (read_line at.now) served.1.said counts.say_faults ended.1;
    }
    | inr ended ↦ absurd (omega arith)
  ]
  cannot_read (Write at) served said three = elim said.ended [ inl ended ↦ absurd (omega arith) | inr ended ↦ absurd (omega arith) ]
  cannot_read Said served said three = absurd (omega arith)
  cannot_read (Refused fault) served said three = elim said.ended [ inl ended ↦ absurd (omega (arith, (judged fault).at_least)) | inr ended ↦ absurd (omega arith) ]
  cannot_read NoMemory served said three = elim said.ended [ inl ended ↦ absurd (omega arith) | inr ended ↦ absurd (omega arith) ]

  pub cannot_write : (stop : Stop) → ServeStops command before mid stop → StopSaid stop mid status after → status ≡ 4 → CannotWrite words before after
  cannot_write Words served said four = absurd served
  cannot_write (Read at) served said four = elim said.ended [ inl ended ↦ absurd (omega arith) | inr ended ↦ absurd (omega arith) ]
  cannot_write (Write at) served said four = elim said.ended [
    | inl ended ↦ record {
      has_command = rw is refl;
      rose = inl (rw said.rest.store_faults served.0);
      stopped = told_map before.files (λ files. answered_map (called_by words command files is) (λ d stops. inl (record {
        name = at.now;
        rose = rw said.rest.store_faults served.0;
        stops_at = rw said.rest.files stops;
        line = line_later before mid after (write_line at.now) served.1.said counts.say_faults ended.1;
      }))) served.2;
    }
    | inr ended ↦ absurd (omega arith)
  ]
  cannot_write Said served said four = record {
    has_command = rw is refl;
    rose = inr (rw said.1 served.0);
    stopped = told_map before.files (λ files. answered_map (called_by words command files is) (λ d stops. inr (record {
      rose = rw said.1 served.0;
      stored = rw said.1 stops.0;
      partly = rw said.1 stops.1;
    }))) served.1;
  }
  cannot_write (Refused fault) served said four = elim said.ended [ inl ended ↦ absurd (omega (arith, (judged fault).at_least)) | inr ended ↦ absurd (omega arith) ]
  cannot_write NoMemory served said four = elim said.ended [ inl ended ↦ absurd (omega arith) | inr ended ↦ absurd (omega arith) ]

  untouched : IsUntouched before mid → after.files ≡ mid.files → IfSome before.files (λ files. (after.files ≡ before.files) ⊎ IsAnsweredAnd (IsPlan words files) (λ delivery. HasPartOfStores files delivery.stores before after))
  untouched same rest = under before.files _ (λ files told. inl (rest ∙ same.files))

  pub out_of_memory : (stop : Stop) → ServeStops command before mid stop → StopSaid stop mid status after → status ≡ 10 → OutOfMemory words before after
  out_of_memory Words served said ten = absurd served
  out_of_memory (Read at) served said ten = elim said.ended [
    | inl ended ↦ absurd (omega arith)
    | inr ended ↦ record { files = untouched served.1 said.rest.files; line = memory_later before mid after served.1.said counts.say_faults ended.1 }
  ]
  out_of_memory (Write at) served said ten = elim said.ended [
    | inl ended ↦ absurd (omega arith)
    | inr ended ↦ record {
      files = told_map before.files (λ files answer. inr (answered_map (called_by words command files is) (λ d stops.
          inr (rw said.rest.store_faults served.0, (at.now, rw said.rest.files stops))) answer)) served.2;
      line = memory_later before mid after served.1.said counts.say_faults ended.1;
    }
  ]
  out_of_memory Said served said ten = absurd (omega arith)
  out_of_memory (Refused fault) served said ten = record {
    files = untouched served.1 said.rest.files;
    line = memory_later before mid after served.1.said counts.say_faults (elim said.ended [
      | inl ended ↦ memory_said mid after (rw ((judged fault).memory (sym ended.0 ∙ ten)) at ended.1)
      | inr ended ↦ ended.1
    ]);
  }
  out_of_memory NoMemory served said ten = record {
    files = told_map before.files (λ files stored. elim stored [
      | inl same ↦ inl (said.rest.files ∙ same)
      | inr answer ↦ inr (answered_map (called_by words command files is) (λ d first. inl (rw said.rest.files first)) answer)
    ]) served.1;
    line = memory_later before mid after served.0.said counts.say_faults (either status mid after said.ended);
  }

  must_be : (stop : Stop) (files : Files) → before.files ≡ Some files → ServeStops command before mid stop → StopSaid stop mid status after
      → (plan : Plan) → IsPlanOf command files plan
      → Stood before.load_faults after.load_faults
      → (IsAnswered plan → Stood before.store_faults after.store_faults × Stood before.say_faults after.say_faults)
      → (status ≡ status_of_plan plan) ⊎ (status ≡ 10)
  must_be Words files told served said plan called_for stood calm = absurd served
  must_be (Read at) files told served said plan called_for stood calm = elim said.ended [
    | inl ended ↦ inl (ended.0 ∙ ap status_of_plan (sym (missing_plan files command _ at.now plan
        (λ rose. no_rise _ _ (rw said.rest.load_faults at stood) rose) (rw told at served.0) called_for)))
    | inr ended ↦ inr ended.0
  ]
  must_be (Write at) files told served said plan called_for stood calm =
      let answer = rw told at served.2 in
      absurd (no_rise _ _ (rw said.rest.store_faults at (calm (is_answered command files plan _ called_for answer)).0) served.0)
  must_be Said files told served said plan called_for stood calm =
      let answer = rw told at served.1 in
      absurd (no_rise _ _ (rw said.1 at (calm (is_answered command files plan _ called_for answer)).1) served.0)
  must_be (Refused fault) files told served said plan called_for stood calm = elim said.ended [
    | inl ended ↦ inl (ended.0 ∙ ap status_of_plan (plans_agree command files (refused fault) plan (rw told at served.0) called_for))
    | inr ended ↦ inr ended.0
  ]
  must_be NoMemory files told served said plan called_for stood calm = elim said.ended [ inl ended ↦ inr ended.0 | inr ended ↦ inr ended.0 ]

  pub must_come : (stop : Stop) → ServeStops command before mid stop → StopSaid stop mid status after → MustCome words before status after
  must_come stop served said = record {
    words_have_none = λ none. cc;
    planned = rw is (under before.files _ (λ files told. must_be stop files told served said));
  }

  pub is_refused : (stop : Stop) → ServeStops command before mid stop → StopSaid stop mid status after → IsRefusal status → IsRefused words before status after
  is_refused Words served said five = absurd served
  is_refused (Read at) served said five = elim said.ended [ inl ended ↦ absurd (omega arith) | inr ended ↦ absurd (omega arith) ]
  is_refused (Write at) served said five = elim said.ended [ inl ended ↦ absurd (omega arith) | inr ended ↦ absurd (omega arith) ]
  is_refused Said served said five = absurd (omega arith)
  is_refused (Refused fault) served said five = elim said.ended [
    | inl ended ↦ record {
      has_command = rw is refl;
      files = said.rest.files ∙ served.1.files;
      fault = told_map before.files (λ files called_for. record {
        fault = fault;
        called_for = called_by words command files is (refused fault) called_for;
        fact = (sym ended.0, line_later before mid after (fault_line fault) served.1.said counts.say_faults ended.1);
      }) served.0;
    }
    | inr ended ↦ absurd (omega arith)
  ]
  is_refused NoMemory served said five = elim said.ended [ inl ended ↦ absurd (omega arith) | inr ended ↦ absurd (omega arith) ]

-- a command that was served calls for an answer, and no other status has to come
pub served_must_come : (words : List (List ℕ)) (command : Command) (before after : Outside) → command_of words ≡ Some command → Serves command before after
    → MustCome words before 0 after
served_must_come words command before after is serves = record {
  words_have_none = λ none. cc;
  planned = rw is (under before.files _ (λ files told plan called_for stood calm.
      let answer = rw told at serves in
      inl (ap status_of_plan (plans_agree command files (answered answer.delivery) plan answer.called_for called_for))));
}

-- what was served is done
pub served_done : (words : List (List ℕ)) (command : Command) (before after : Outside) → command_of words ≡ Some command → Serves command before after → Done words before after
served_done words command before after is serves = told_map before.files (λ files. answered_map (called_by words command files is) (λ d h. h)) serves
