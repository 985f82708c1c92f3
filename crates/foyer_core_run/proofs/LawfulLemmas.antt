-- The laws of a run that began with an opened core.
use Rattle.std.proofs.Common.{◌≡◌, ℕ, false, List, [], ◌∷◌, ◌++◌, inl, inr, Some, refl, sym, ap, subst, ◌∙◌}
use Rattle.foyer_core_model.specs.Laws.{Demands, IsReached}
use Rattle.foyer_core_model.specs.Reply as model_reply
use Rattle.foyer_core_model.specs.Rules.{Rules, Splitting}
use Rattle.foyer_core_model.specs.Step.{LoadBegin, LoadEnd}
use Rattle.foyer_core_model.specs.World.{World, WorldEvent, Applies, MayAllHappen, after, after_all}
use Rattle.foyer_core_model.proofs.Promises.{answers_newest_lem, missed_newest_lem}
use Rattle.foyer_core_model.proofs.PutsQueued.{puts_are_queued_lem}
use Rattle.foyer_core_laws.specs.Content.{Content, Meaning}
use Rattle.foyer_core_laws.specs.CoreRules.{layout}
use Rattle.foyer_core_laws.specs.CoreRules.{machine}
use Rattle.foyer_core_laws.specs.CoreRules.{IsEncoded}
use Rattle.foyer_core_laws.specs.Sizes.{AreValid}
use Rattle.foyer_core_steps.specs.declared.reply.Reply.{Reply}
use Rattle.foyer_core_laws.specs.Settings.{Settings}
use Rattle.foyer_core_steps.specs.declared.state.Core.{Core}
use Rattle.foyer_core_laws.proofs.LawLemmas.{demands}
use Rattle.foyer_core_model.specs.Opened.{IsOpened as IsOpenedWorld}
use Rattle.foyer_core_run.specs.Lawful.{AnswersAreNewest, EntriesAreNewest, NewestAreAnswered, PutsWereQueued, IsLawful}
use Rattle.foyer_core_run.specs.Runs.{IsRun}
use Rattle.foyer_core_run.specs.declared.moves.Move.{Move}
use Rattle.foyer_core_run.proofs.ListLemmas.{append_twice}
use Rattle.foyer_core_run.proofs.LookUpLemmas.{IsLookedUp, all_looked_up}
use Rattle.foyer_core_run.proofs.RunLemmas.{after_more}

pub happen_front : {C : Type 0} (rules : Rules C) (Splits : Splitting C) (is_value : C → Type 0) (w : World C) (xs ys : List (WorldEvent C))
    → MayAllHappen rules Splits is_value w (xs ++ ys) → MayAllHappen rules Splits is_value w xs
happen_front rules Splits is_value w [] ys all = tt
happen_front rules Splits is_value w (x ∷ xs) ys all = (all.0, happen_front rules Splits is_value (after rules w x) xs ys all.1)

happen_rest : {C : Type 0} (rules : Rules C) (Splits : Splitting C) (is_value : C → Type 0) (w : World C) (xs ys : List (WorldEvent C))
    → MayAllHappen rules Splits is_value w (xs ++ ys) → MayAllHappen rules Splits is_value (after_all rules w xs) ys
happen_rest rules Splits is_value w [] ys all = all
happen_rest rules Splits is_value w (x ∷ xs) ys all = happen_rest rules Splits is_value (after rules w x) xs ys all.1

module _ {K V P : Type 0} (m : Meaning K V P) (s : Settings) (sound : AreValid s) (first : World Content) (is_opened : IsOpenedWorld (machine m s sound) first) where
  abbrev rules : Rules Content
  rules = machine m s sound

  abbrev Splits : Splitting Content
  Splits = layout s

  abbrev is_value : Content → Type 0
  is_value = IsEncoded m.is_key m.is_value

  met : Demands rules Splits is_value
  met = demands m.is_key m.is_value s sound

  reached : (before : List (WorldEvent Content)) → MayAllHappen rules Splits is_value first before → IsReached rules Splits is_value (after_all rules first before)
  reached before happened = record { first = first; events = before; opened = is_opened; happened = happened; is = refl }

  module _ (events : List (WorldEvent Content)) (happened : MayAllHappen rules Splits is_value first events) where
    entries : EntriesAreNewest rules first events
    entries before between rest h throttled t looked result c age ended l is at read_state =
        let begin : WorldEvent Content = Applies (LoadBegin h throttled) (model_reply.Read t) looked in
        let end : WorldEvent Content = Applies (LoadEnd t result) (model_reply.Entry c age) ended in
        let all : MayAllHappen rules Splits is_value first (before ++ ((begin ∷ between) ++ end ∷ rest)) = subst (λ es. MayAllHappen rules Splits is_value first es) is happened in
        let w : World Content = after_all rules first before in
        let later : MayAllHappen rules Splits is_value w ((begin ∷ between) ++ end ∷ rest) = happen_rest rules Splits is_value first before ((begin ∷ between) ++ end ∷ rest) all in
        answers_newest_lem rules Splits is_value w h throttled t looked between result c age ended l met
        (reached before (happen_front rules Splits is_value first before ((begin ∷ between) ++ end ∷ rest) all))
        (happen_front rules Splits is_value w (begin ∷ between) (end ∷ rest) later)
        (happen_rest rules Splits is_value w (begin ∷ between) (end ∷ rest) later).0 at read_state

    answers : AnswersAreNewest rules first events
    answers before rest t result c age ended is =
        let end : WorldEvent Content = Applies (LoadEnd t result) (model_reply.Entry c age) ended in
        let all : MayAllHappen rules Splits is_value first (before ++ end ∷ rest) = subst (λ es. MayAllHappen rules Splits is_value first es) is happened in
        let fed = (happen_rest rules Splits is_value first before (end ∷ rest) all).0.0 in
        let found = subst (λ u. IsLookedUp rules Splits is_value first before fed.0 u) fed.3
        (all_looked_up rules Splits is_value first before is_opened.loads (happen_front rules Splits is_value first before (end ∷ rest) all) fed.0 fed.1 fed.2) in
        let look : WorldEvent Content = Applies (LoadBegin found.hash found.throttled) (model_reply.Read t) found.looked in
        let w : World Content = after_all rules first found.earlier in
        let here : (after_all rules w (look ∷ found.between)).loads w.issued ≡ Some fed.1 =
        ap (λ n. (after_all rules w (look ∷ found.between)).loads n) found.number
        ∙ ap (λ v. v.loads fed.0) (sym (after_more rules first found.earlier (look ∷ found.between)) ∙ ap (after_all rules first) (sym found.is)) ∙ fed.2 in
        record {
          earlier = found.earlier;
          between = found.between;
          hash = found.hash;
          throttled = found.throttled;
          looked = found.looked;
          is = found.is;
          put =
              entries found.earlier found.between rest found.hash found.throttled t found.looked result c age ended fed.1
              (is ∙ ap (λ es. es ++ end ∷ rest) found.is ∙ append_twice found.earlier (look ∷ found.between) (end ∷ rest)) here fed.4;
        }

    misses : NewestAreAnswered rules first events
    misses before others h reply looked b q x is few kept newer some =
        let w : World Content = after_all rules first before in
        let all : MayAllHappen rules Splits is_value first (before ++ Applies (LoadBegin h false) reply looked ∷ others) = subst (λ es. MayAllHappen rules Splits is_value first es) is happened in
        let later : MayAllHappen rules Splits is_value w (Applies (LoadBegin h false) reply looked ∷ others) = happen_rest rules Splits is_value first before (Applies (LoadBegin h false) reply looked ∷ others) all in
        let found = missed_newest_lem rules Splits is_value w h reply looked b q x met
        (reached before (happen_front rules Splits is_value first before (Applies (LoadBegin h false) reply looked ∷ others) all)) later.0 few kept newer some in
        let begin : WorldEvent Content = Applies (LoadBegin h false) (model_reply.Read found.0) looked in (
          found.0,
          found.1,
          λ between rest result answer ended l d split early at read_state left.
              let end : WorldEvent Content = Applies (LoadEnd found.0 result) answer ended in
              let run : MayAllHappen rules Splits is_value w ((begin ∷ between) ++ end ∷ rest) =
              subst (λ es. MayAllHappen rules Splits is_value w (begin ∷ es)) split
              (subst (λ r. MayAllHappen rules Splits is_value w (Applies (LoadBegin h false) r looked ∷ others)) found.1 later) in
              found.2 between result answer ended l d
              (happen_front rules Splits is_value w (begin ∷ between) (end ∷ rest) run)
              (happen_rest rules Splits is_value w (begin ∷ between) (end ∷ rest) run).0 early at read_state left,
        )

    puts : PutsWereQueued rules first events
    puts h q x among = puts_are_queued_lem rules Splits is_value first events h q x met is_opened happened among

  -- a run from an opened world is lawful
  pub lawful : {A : Type 0} (moves : List (Move K V P A)) (said : List (Reply K V P A)) (core : Core K V P A) (bytes' : ℕ → ℕ → ℕ)
      → IsRun m s sound first moves said core bytes' → IsLawful m s sound first moves said
  lawful moves said core bytes' run = record {
    opened = is_opened;
    events = run.events;
    happened = run.happened;
    made = run.made;
    answers = answers run.events run.happened;
    entries = entries run.events run.happened;
    misses = misses run.events run.happened;
    puts = puts run.events run.happened;
  }
