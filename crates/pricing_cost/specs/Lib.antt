-- The limit of prices, which the contracts cite beside the rules.
pub mod PriceLimit
