use Rattle.std.proofs.Common.{◌<◌, ◌-◌, ◌∷◌, sym, ap, subst, ◌∙◌, arith}
use Rattle.std.specs.Prelude.{vec_len, vec_capacity}
use Rattle.foyer_policy_keeper.specs.PieceMap.{HasPlace}
use Rattle.foyer_policy_keeper.proofs.PieceMaps.{has_room, inserted_set, inserted_push}
use Rattle.foyer_policy_keeper.proofs.keeper.bucket.Bucket.put.Goals as goal

pub push_reserved-requires : goal.push_reserved-requires
push_reserved-requires g c =
    let room : 0 < vec_capacity c.self.inside.others - vec_len c.self.inside.others =
    has_room g.met.K.Eq.laws c.self.inside.first c.self.inside.others.items c.deref-3.result.now _ c.key.result.now c.key-2.result.now c.key-3.result.now c.args.piece.piece.key
    (c.key.ensures ∙ ap (λ p. p.key) c.deref.ensures) (c.key-2.ensures ∙ ap (λ p. p.key) c.deref-2.ensures) (c.key-3.ensures ∙ ap (λ p. p.key) c.deref-4.ensures) (sym c.if-eq.ensures)
    c.deref-3.ensures.value c.in-None.ensures (subst (λ v. HasPlace g.K.PartialEq.eq v c.args.piece.piece.key) (sym c.self.view_is) c.requires) in
    omega arith

pub returns-in-Some : goal.returns-in-Some
returns-in-Some g c =
    rw (← c.self.view_is) (
    inserted_set g.met.K.Eq.laws c.self.inside.first c.args.piece c.self.inside.others.items c.deref-3.result.now c.in-Some.place
    c.key.result.now c.key-2.result.now c.key-3.result.now (c.key.ensures ∙ ap (λ p. p.key) c.deref.ensures) (c.key-2.ensures ∙ ap (λ p. p.key) c.deref-2.ensures) (sym c.if-eq.ensures)
    (c.key-3.ensures ∙ ap (λ p. p.key) c.deref-4.ensures) c.deref-3.ensures.value c.in-Some.ensures
    )

pub returns-in-None : goal.returns-in-None
returns-in-None g c =
    rw (← c.self.view_is) (
    inserted_push g.met.K.Eq.laws c.self.inside.first c.args.piece c.self.inside.others.items c.deref-3.result.now c.push_reserved.new.self.items
    c.key.result.now c.key-2.result.now c.key-3.result.now (c.key.ensures ∙ ap (λ p. p.key) c.deref.ensures) (c.key-2.ensures ∙ ap (λ p. p.key) c.deref-2.ensures) (sym c.if-eq.ensures)
    (c.key-3.ensures ∙ ap (λ p. p.key) c.deref-4.ensures) c.deref-3.ensures.value c.in-None.ensures c.push_reserved.ensures.items
    )
