-- The law that nothing of an earlier life comes back.
use Rattle.std.proofs.Common.{◌≡◌, ◌≢◌, ℕ, ◌+◌, ◌<◌, nat_le, Bool, true, false, if◌then◌else◌, Option, Some, None, List, [], ◌∷◌, ◌++◌, ◌⊎◌, inl, inr, refl, sym, ap, subst, ◌∙◌, arith}
use Rattle.std.proofs.lemmas.Bool.Decides.{nat_tests}
use Rattle.foyer_format_layout.specs.BlockBytes.{Index, Write}
use Rattle.foyer_format_layout.specs.Position.{Sizes}
use Rattle.foyer_format_blob.specs.Blob.{IsSealed}
use Rattle.foyer_format_buffer.specs.Holding.{all_read}
use Rattle.foyer_format_buffer.specs.Listing.{IsIndex, behind, placed, Chain, Lists, kept}
use Rattle.foyer_format_buffer.proofs.ListingLemmas.{chain_step}
use Rattle.foyer_core_model.specs.Access.{CleanIdle, CleanDone}
use Rattle.foyer_core_model.specs.Flush.{is_cleaning}
use Rattle.foyer_core_model.specs.Ids.{is_id_in}
use Rattle.foyer_core_model.specs.Laws.{Demands}
use Rattle.foyer_core_model.specs.Opened.{IsOpened}
use Rattle.foyer_core_model.specs.Record.{Address, Indexed}
use Rattle.foyer_core_model.specs.Rules.{Rules, Splitting, sizes_of}
use Rattle.foyer_core_model.specs.State.{Clean, Writes, Evictable, Flusher}
use Rattle.foyer_core_model.specs.World.{World, after_all}
use Rattle.foyer_core_model.proofs.CleanListed.{reached_list}
use Rattle.foyer_core_model.proofs.Invariant.{blocks_in, goes_on_in, start_of}
use Rattle.foyer_core_model.proofs.OpenedSound.{new_sound, new_sets}
use Rattle.foyer_core_model.proofs.RereadsKept.{new_again}
use Rattle.foyer_core_model.proofs.Served.{opened_served}
use Rattle.foyer_core_model.proofs.Widths.{opened_wide}
use Rattle.foyer_core_restart.specs.Entries.{In, filled_to, entry_of, entry_at}
use Rattle.foyer_core_restart.specs.Real.{IsReal}
use Rattle.foyer_core_restart.proofs.Layouts.{laid_demands, laid_is_real}
use Rattle.foyer_core_restart.proofs.Members.{in_either, rising_in, all_stand_out, winner_is}
use Rattle.foyer_core_restart.proofs.Safe.{RestOk}
use Rattle.foyer_core_restart.proofs.Tasks.{Entry}
use Rattle.foyer_block_recover.specs.Opening.{Found, Stands, Marked, winner, opened_at, slot_of, all_stand, all_marked, is_empty, Keeps, IsCut, Opened, Opens}
use Rattle.foyer_block_recover.specs.declared.block.recover.RecoverMode.{RecoverMode}
use Rattle.foyer_block_recover.specs.declared.block.recover.RecoverMode.TheVariants as recover_mode
use Rattle.foyer_block_recover.proofs.CleanLemmas.{clean_is}
use Rattle.foyer_core_returns.specs.Lives.{Life, first_life, life_of}
use Rattle.foyer_core_returns.specs.Returns.{IsOfLife, IsUntouched, ReturnsLaw, LaidReturnsLaw}
use Rattle.foyer_core_returns.proofs.LifeWrites.{IsOfRecord}
use Rattle.foyer_core_returns.proofs.Lived.{scene_of, AreLeft, IsLived}
use Rattle.foyer_core_returns.proofs.LivedEvents.{all_lived}
use Rattle.foyer_core_returns.proofs.LivedStop.{chain_whole, ListsNone, listed_own, kept_still}

-- what an opening has of a hash, as an entry that it kept of a block

not_marked : (c : ℕ) (e : Entry) (ms : List (ℕ × ℕ)) → In (Stands c e) (all_marked ms) → ⊥
not_marked c e [] i = i
not_marked c e (m ∷ ms) (inl is) = let x : Stands c e ≡ Marked m.0 m.1 = is in cc
not_marked c e (m ∷ ms) (inr i) = not_marked c e ms i

stands_same : (c d : ℕ) (e k : Entry) → Stands c e ≡ Stands d k → (c ≡ d) × (e ≡ k)
stands_same c d e k is = (cc, cc)

slot_same : (a k : Address) → Some (Indexed a) ≡ Some (Indexed k) → a ≡ k
slot_same a k is = cc

pub index_kept : (s : Sizes) (n : ℕ) (bytes : ℕ → ℕ → ℕ) (mode : RecoverMode) (failed : ℕ → ℕ → Bool) (marks : List (ℕ × ℕ)) (o : Opened) (opens : Opens s n bytes mode failed marks o) (h : ℕ) (a : Address)
    → o.index h ≡ Some (Indexed a) → (a.block < n) × In (entry_at h a) (opens.keeps a.block)
index_kept s n bytes mode failed marks o opens h a is = go (winner h all) refl (sym (opens.index h) ∙ is)
  where
    all : List Found
    all = all_stand 0 n opens.keeps ++ all_marked marks

    go : (x : Option Found) → winner h all ≡ x → slot_of x ≡ Some (Indexed a) → (a.block < n) × In (entry_at h a) (opens.keeps a.block)
    go None e f = absurd (let x : None ≡ Some (Indexed a) = f in cc)
    go (Some (Marked k t)) e f = absurd (let x : None ≡ Some (Indexed a) = f in cc)
    go (Some (Stands c e)) won f =
        let one : In (Stands c e) all × (e.hash ≡ h) = winner_is h (Stands c e) all won in
        let same : opened_at c e ≡ a = slot_same (opened_at c e) a f in
        elim (in_either (Stands c e) (all_stand 0 n opens.keeps) (all_marked marks) one.0) [
          | inl stood ↦ (let r : (d : ℕ) × (k : Entry) × (Stands c e ≡ Stands d k) × (d < 0 + n) × In k (opens.keeps d) = all_stand_out 0 n (Stands c e) opens.keeps stood in
              let eq : (c ≡ r.0) × (e ≡ r.1) = stands_same c r.0 e r.1 r.2 in
              let at : r.0 ≡ a.block = sym eq.0 ∙ ap (λ k. k.block) same in
              let entry : r.1 ≡ entry_at h a = sym eq.1 ∙ (λ i. record { hash = one.1 i; sequence = (same i).sequence; offset = (same i).offset; len = (same i).len }) in (
                let lt : r.0 < 0 + n = r.3 in omega (arith, at, lt),
                subst (λ d. In (entry_at h a) (opens.keeps d)) at (subst (λ k. In k (opens.keeps r.0)) entry r.4),
              ))
          | inr marked ↦ absurd (not_marked c e marks marked)
        ]

-- an address of a record of the life, in one of its indices
pub written_of : {C : Type 0} (l : Life C) (h : ℕ) (a : Address)
    → IsOfRecord l.records (entry_at h a) × ((v : Write) × (es : List Entry) × In v l.writes × (v.role ≡ Index) × IsSealed v.bytes es × In (entry_at h a) (placed v.offset es))
    → IsOfLife l h a
written_of l h a (((at, content), issued, entry), (v, es, began, role, sealed, lists)) =
    let same : at ≡ a.offset = ap (λ (e : Entry). e.offset) entry in
    record {
      content = content;
      issued = subst (λ n. In (n, content) l.records) same issued;
      entry = subst (λ n. entry_of (n, content) ≡ entry_at h a) same entry;
      index = v;
      began = began;
      role = role;
      listed = es;
      sealed = sealed;
      lists = lists;
    }

-- what is kept is of what is listed
pub keeps_of : (s : Sizes) (mode : RecoverMode) (B : ℕ → ℕ) (failed : ℕ → Bool) (e : Entry) (es : List Entry) → Keeps s mode B failed es → In e es → (ls : List Entry) × Lists s B failed ls × In e (kept ls)
keeps_of s recover_mode.None B failed e es keeps i = absurd (subst (λ l. In e l) keeps i)
keeps_of s recover_mode.Quiet B failed e es keeps i = (keeps.0, keeps.1, subst (λ l. In e l) keeps.2 i)
keeps_of s recover_mode.Strict B failed e es keeps i = (keeps.0, keeps.1, subst (λ l. In e l) keeps.2 i)

keeps_listed : (s : Sizes) (mode : RecoverMode) (B : ℕ → ℕ) (failed : ℕ → Bool) (es : List Entry) → mode ≢ recover_mode.None → Keeps s mode B failed es → (ls : List Entry) × Lists s B failed ls × (es ≡ kept ls)
keeps_listed s recover_mode.None B failed es some keeps = absurd (some refl)
keeps_listed s recover_mode.Quiet B failed es some keeps = keeps
keeps_listed s recover_mode.Strict B failed es some keeps = keeps

whole_lists : (s : Sizes) (B : ℕ → ℕ) (failed : ℕ → Bool) (ls : List Entry) → (IsCut s B failed → ⊥) → Lists s B failed ls → Lists s B all_read ls
whole_lists s B failed ls whole lists = record { end = lists.end; chain = chain_whole s B failed 0 lists.end ls (λ room cut. whole (ls, lists.end, lists.chain, room, cut)) lists.chain }

none_kept : (ls : List Entry) → [] ≡ kept ls → ls ≡ []
none_kept [] e = refl
none_kept (x ∷ ls) e = go (nat_le 0 x.sequence) refl e
  where
    go : (t : Bool) → nat_le 0 x.sequence ≡ t → [] ≡ (if t then x ∷ Rattle.foyer_format_buffer.specs.Listing.rising x.sequence ls else []) → x ∷ ls ≡ []
    go true f g = absurd (let z : [] ≡ x ∷ Rattle.foyer_format_buffer.specs.Listing.rising x.sequence ls = g in cc)
    go false f g = absurd (grind (arith, nat_tests))

none_empty : (es : List Entry) → is_empty es ≡ true → es ≡ []
none_empty [] e = refl
none_empty (x ∷ es) e = absurd (let z : false ≡ true = e in cc)

-- a block that lists nothing has no entry in its first index
none_first : (s : Sizes) (B : ℕ → ℕ) (ls : List Entry) → Lists s B all_read ls → ls ≡ [] → (es : List Entry) → IsIndex s B all_read 0 es → es ≡ []
none_first s B ls lists none [] is = refl
none_first s B ls lists none (e ∷ es) is =
    let step : (rest : List Entry) × Chain s B all_read (behind s 0 (e ∷ es)) rest lists.end × (ls ≡ placed 0 (e ∷ es) ++ rest) = chain_step s B all_read 0 lists.end (e ∷ es) ls is lists.chain in
    absurd (let z : [] ≡ placed 0 (e ∷ es) ++ step.0 = sym none ∙ step.2 in cc)

module _ (A : Type 0) {C : Type 0} (rules : Rules C) (Splits : Splitting C) (is_value : C → Type 0) (demands : Demands rules Splits is_value) (real : IsReal A rules Splits) where
  abbrev s : Sizes
  s = sizes_of rules

  -- a block begins its first life
  pub new_lived : (w : World C) (b : ℕ) (Empty : Type 0) → IsOpened rules w → (w.core.place b ≡ Clean → Empty) → IsLived A rules b (w.bytes b) Empty (scene_of w) first_life
  new_lived w b Empty opened none = record {
    rests = λ f. subst (λ flusher. RestOk A s (filled_to (start_of rules w.filled flusher.own (goes_on_in flusher.batch))) (blocks_in flusher.batch)) (sym (opened.flushers f)) tt;
    dirty = λ e. absurd (e (opened.clean_states b));
    idle = λ e. absurd (let x : false ≡ true = sym (ap is_cleaning opened.destroy) ∙ e in cc);
    none = λ e. absurd (let x : false ≡ true = sym (ap is_cleaning opened.destroy) ∙ e in cc);
    done = λ ok e. absurd (let x : CleanIdle ≡ CleanDone ok = sym (opened.clean_states b) ∙ e in cc);
    gone = λ lt e. absurd (let x : false ≡ true = sym (ap is_cleaning opened.destroy) ∙ e in cc);
    clean = λ e. inr (inl (none e));
    owned = λ f e. absurd (elim (opened.place b) [
      | inl clean ↦ (let x : Clean ≡ Writes f = sym clean ∙ e in cc)
      | inr (lt, evictable) ↦ (let x : Evictable ≡ Writes f = sym evictable ∙ e in cc)
    ]);
    began = λ x i. absurd i;
    stays = λ h e o bare. refl;
    zeros = λ h e. absurd (let x : false ≡ true = e in cc);
    log = λ x i. absurd i;
    left = λ f. subst (AreLeft A rules b (w.bytes b) Empty first_life) (sym (opened.block_writes f)) tt;
    mine = λ f e. absurd (let x : None ≡ Some b = sym (ap (λ (flusher : Flusher C). flusher.own) (opened.flushers f)) ∙ e in cc);
  }

  -- a block that is clean at the opening keeps nothing
  clean_keeps : (w : World C) (mode : RecoverMode) (marks : List (ℕ × ℕ)) (own : Opened) (missed : ℕ → ℕ → Bool) (opening : Opens s rules.blocks w.bytes mode missed marks own) (b : ℕ)
      → mode ≢ recover_mode.None → (IsCut s (w.bytes b) (missed b) → ⊥) → IsOpened rules w → w.core.clean ≡ own.clean → b < rules.blocks → w.core.place b ≡ Clean → ListsNone A rules real.format.sizes b (w.bytes b) w first_life (w.bytes b)
  clean_keeps w mode marks own missed opening b some uncut opened same lt clean =
      let listed : is_id_in b w.core.clean ≡ true =
      (reached_list rules Splits is_value demands w (record { first = w; events = []; opened = opened; happened = tt; is = refl })).0 b lt clean in
      let empty : is_empty (opening.keeps b) ≡ true =
      sym (clean_is opening.keeps rules.blocks 0 b (omega arith) (omega (arith, lt))) ∙ ap (is_id_in b) (sym opening.clean ∙ sym same) ∙ listed in
      let r : (ls : List Entry) × Lists s (w.bytes b) (missed b) ls × (opening.keeps b ≡ kept ls) = keeps_listed s mode (w.bytes b) (missed b) (opening.keeps b) some (opening.kept b lt) in
      none_first s (w.bytes b) r.0 (whole_lists s (w.bytes b) (missed b) r.0 uncut r.1) (none_kept r.0 (sym (none_empty (opening.keeps b) empty) ∙ r.2))

pub returns_law_lem : (A : Type 0) {C : Type 0} (rules : Rules C) (Splits : Splitting C) (is_value : C → Type 0) → ReturnsLaw A rules Splits is_value
returns_law_lem A {C} rules Splits is_value demands real first events mode again marks later own o missed failed opening bytes h a some uncut opened clean happened well stopped strays torn opens is =
    decide l.is_cleaned refl l.writes refl
  where
    b : ℕ
    b = a.block

    s : Sizes
    s = sizes_of rules

    l : Life C
    l = life_of rules first events b

    w : World C
    w = after_all rules first events

    there : (b < rules.blocks) × In (entry_at h a) (opens.keeps b)
    there = index_kept s rules.blocks bytes again failed later o opens h a is

    Empty : Type 0
    Empty = ListsNone A rules real.format.sizes b (first.bytes b) w l (bytes b)

    lived : IsLived A rules b (first.bytes b) Empty (scene_of w) l
    lived = all_lived A rules Splits is_value demands real b (first.bytes b) Empty first first_life events happened
        (record { sound = new_sound rules first opened; again = new_again rules first opened; sets = new_sets rules first opened })
        (opened_wide rules Splits first opened) (opened_served rules Splits first opened)
        (new_lived A rules Splits is_value demands real first b Empty opened (λ at. clean_keeps A rules Splits is_value demands real first mode marks own missed opening b some uncut opened clean there.0 at))

    found : (ls : List Entry) × Lists s (bytes b) (failed b) ls × In (entry_at h a) (kept ls)
    found = keeps_of s again (bytes b) (failed b) (entry_at h a) (opens.keeps b) (opens.kept b there.0) there.1

    stood : (ls : List Entry) × Lists s (first.bytes b) (missed b) ls × (opening.keeps b ≡ kept ls)
    stood = keeps_listed s mode (first.bytes b) (missed b) (opening.keeps b) some (opening.kept b there.0)

    written : (l.is_cleaned ≡ true) ⊎ Empty → IsOfLife l h a
    written clear = written_of l h a
        (listed_own A rules real.format.sizes b (first.bytes b) w l (bytes b) Empty lived well (stopped b) (λ p e es. strays b p e es there.0) (λ e es. torn b e es there.0) clear
        (failed b) (entry_at h a) found.0 found.1 (rising_in 0 (entry_at h a) found.0 found.2))

    decide : (t : Bool) → l.is_cleaned ≡ t → (ws : List Write) → l.writes ≡ ws → IsOfLife l h a ⊎ IsUntouched l (opening.keeps b) h a
    decide true e ws f = inl (written (inl e))
    decide false e (v ∷ ws) f = inl (written (elim (lived.began v (subst (λ m. In v m) (sym f) (inl refl))) [ inl cleaned ↦ inl cleaned | inr (inl empty) ↦ inr empty | inr (inr failed') ↦ absurd (let x : true ≡ false = sym failed' ∙ well in cc) ]))
    decide false e [] f = inr (record {
      uncleaned = e;
      unwritten = f;
      kept = subst (λ m. In (entry_at h a) m) (sym stood.2)
          (kept_still A rules real.format.sizes b (first.bytes b) w l (bytes b) Empty lived well (stopped b) (λ p e es. strays b p e es there.0) (λ e es. torn b e es there.0)
          (failed b) (entry_at h a) found.0 stood.0 e f found.1 (whole_lists s (first.bytes b) (missed b) stood.0 uncut stood.1) found.2);
    })

pub laid_returns_law_lem : {C : Type 0} (rules : Rules C) (is_value : C → Type 0) → LaidReturnsLaw rules is_value
laid_returns_law_lem rules is_value format small trips =
    returns_law_lem (Unit {0}) rules _ is_value (laid_demands rules format small is_value trips) (laid_is_real rules format small)
