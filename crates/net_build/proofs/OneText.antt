-- A network has at most one text of its plan.
use Rattle.std.proofs.Common.{◌≡◌, ℕ, zero, suc, List, ◌++◌, length, slice_index, sym, ap, ◌∙◌}
use Rattle.std.specs.List.{flat_map}
use Rattle.spf_routes.specs.declared.graph.Route.{Route}
use Rattle.net_graph.specs.declared.rows.Network.{Network}
use Rattle.net_graph.specs.Networks.{IsNetwork}
use Rattle.net_layout.specs.Periods.{periods_of}
use Rattle.net_layout.proofs.HostTables.{routes_one}
use Rattle.net_build.specs.PlanText.{AreTexts, IsHostText, IsPeriodText, IsPlanText, route_line, period_line, nets_text, links_text, interfaces_text, mappings_text}

-- where each piece is determined, so is the text of all pieces
texts_one : (P : ℕ → List ℕ → Type 0) → ((n : ℕ) (a b : List ℕ) → P n a → P n b → a ≡ b) → (n : ℕ) (a b : List ℕ) → AreTexts P n a → AreTexts P n b → a ≡ b
texts_one P each zero a b x y = x ∙ sym y
texts_one P each (suc n) a b x y =
    x.4
    ∙ (ap (λ (before : List ℕ). before ++ x.1) (texts_one P each n x.0 y.0 x.2 y.2)
    ∙ (ap (λ (piece : List ℕ). y.0 ++ piece) (each n x.1 y.1 x.3 y.3)
    ∙ sym y.4))

host_one : (network : Network) (tick h : ℕ) (a b : List ℕ) → IsHostText network tick h a → IsHostText network tick h b → a ≡ b
host_one network tick h a b x y =
    x.lines
    ∙ (ap (λ (routes : List Route). flat_map (route_line network h) routes) (routes_one network h tick x.routes y.routes x.are_routes y.are_routes)
    ∙ sym y.lines)

period_one : (network : Network) (number : ℕ) (a b : List ℕ) → IsPeriodText network number a → IsPeriodText network number b → a ≡ b
period_one network number a b x y =
    let tick = slice_index (periods_of network) number in
    x.whole
    ∙ (ap (λ (routes : List ℕ). period_line network tick ++ routes)
    (texts_one (IsHostText network tick) (host_one network tick) (length network.hosts) x.routes y.routes x.hosts y.hosts)
    ∙ sym y.whole)

pub plans_one : (network : Network) (a b : List ℕ) → IsPlanText network a → IsPlanText network b → a ≡ b
plans_one network a b x y =
    x.whole
    ∙ (ap (λ (routes : List ℕ). nets_text network ++ (links_text network ++ (interfaces_text network ++ (routes ++ mappings_text network))))
    (texts_one (IsPeriodText network) (period_one network) (length (periods_of network)) x.routes y.routes x.are_routes y.are_routes)
    ∙ sym y.whole)

pub plan_texts_one : (network : Network) (a b : List ℕ) → IsNetwork network → IsPlanText network a → IsPlanText network b → a ≡ b
plan_texts_one network a b _ x y = plans_one network a b x y
