-- That a plan by value can be planned has one proof at most, so a struct can carry it.
-- Assumes nothing.
use Rattle.std.specs.Prelude.{List, [], ◌∷◌}
use Rattle.std.proofs.Props.{props}
use Rattle.planning.specs.declared.Plan.{Plan as ByValue}
use Rattle.planning.specs.ByValue.{Usable, quiet_in, engines_in, deliveries_in}
use Rattle.planning.specs.Plan.{All, Within, SpanInRange, Apart, AllApart, QuietInRange, EngineInRange, DeliveryInRange}
use Rattle.planning.specs.Quiet.{Span, Quiet}

all-prop : {A : Type 0} (P : A → Type 0) → ((x : A) → IsProp (P x)) → (xs : List A) → IsProp (All P xs)
all-prop P h [] = hlevel
all-prop P h (x ∷ xs) = hlevel (h, all-prop P h xs)

apart-prop : (spans : List Span) → IsProp (AllApart spans)
apart-prop [] = hlevel
apart-prop (s ∷ spans) = hlevel (all-prop (Apart s) (λ t. hlevel) spans, apart-prop spans)

quiet-prop : (spans : List Span) → IsProp (QuietInRange spans)
quiet-prop spans = hlevel (props, all-prop SpanInRange (λ s. hlevel props) spans, apart-prop spans)

pub usable-prop : (p : ByValue) → IsProp (Usable p)
usable-prop p =
    hlevel (
      props,
      all-prop (λ (q : Quiet). Within 1 p.engines.count q.engine) (λ q. hlevel props) (quiet_in p.engines.quiet),
      all-prop EngineInRange (λ e. hlevel (props, quiet-prop)) (engines_in p.engines),
      all-prop DeliveryInRange (λ d. hlevel props) (deliveries_in p.deliveries),
    )
