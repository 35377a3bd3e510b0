pub mod PlaceExamples
pub mod PerfectExamples
pub mod RayExamples
