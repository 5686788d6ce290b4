pub mod FirstLaws
pub mod PlaceLaws
pub mod NumberLaws
pub mod DrainLaws
pub mod DifferLaws
pub mod MatchLaws
