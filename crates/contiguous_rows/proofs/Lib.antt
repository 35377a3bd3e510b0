pub mod FirstRay
